use Rattle.std.proofs.Common.{rules, ◌≡◌, ◌<◌, ◌^◌, ◌∙◌, ap, length}
use prog.Memory.{size}
use denote.Param.{layout, param, number}
use Rattle.repo.specs.contracts.repository.Repository as repository
use Rattle.host.specs.contracts.host.Host as host
use Rattle.host.specs.Views.{HostView}
use Rattle.fitting.proofs.Sizes.{core_fits, elem, field, field_fits, field_smaller, sixteen_fit}
use Rattle.host.proofs.host.Host.into_parts.Goals as goal

pub take_out-requires : goal.take_out-requires
take_out-requires g c =
    let core = core_fits (layout (repository.the_row (param 0 g.row.D) (number g.row.B) (param 2 g.row.A) g.D.Digest g.A.Allocator)) c.element.ensures.fits in
    (c.element.ensures.fits, (core, (c.self.invariant.0, c.self.invariant.1)))

pub tables-requires : goal.tables-requires
tables-requires g c =
    let whole = layout (host.the_row (param 0 g.row.D) (number g.row.B) (param 2 g.row.A) g.D.Digest g.A.Allocator g.A.Clone) in
    let fits : size (layout (host.the_row (param 0 g.row.D) (number g.row.B) (param 2 g.row.A) g.D.Digest g.A.Allocator g.A.Clone)) < 2 ^ 63 = search rules in
    let shards = field_fits whole 3 fits in
    let mutex = elem (field (field whole 3) 0) in
    let tables = sixteen_fit (size (field (field mutex 1) 0)) (size (field mutex 1)) (size mutex) (field_smaller (field mutex 1) 0) (field_smaller mutex 1) (field_fits (field whole 3) 0 shards) in
    (shards, tables)

pub returns-clause-cores : goal.returns-clause-cores
returns-clause-cores g c =
    let many : length c.take_out.result.items ≡ length c.self.inside.repositories.items = search rules in
    many ∙ ap (λ (h : HostView). h.repos) c.self.view_is

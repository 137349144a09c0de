use Rattle.std.proofs.Common.{rules, ◌<◌, ◌^◌}
use prog.Memory.{size}
use denote.Param.{layout, param, number}
use Rattle.repo.specs.contracts.repository.Repository as repository
use Rattle.host.specs.contracts.host.Host as host
use Rattle.fitting.proofs.Sizes.{core_fits, elem, field, field_fits, field_smaller, sixteen_fit}
use Rattle.host.proofs.host.Host.fits_in_memory.Goals as goal

pub returns-clause-core : goal.returns-clause-core
returns-clause-core g c =
    core_fits (layout (repository.the_row (param 0 g.row.D) (number g.row.B) (param 2 g.row.A) g.D.Digest g.A.Allocator)) c.element.ensures.fits

pub returns-clause-tables : goal.returns-clause-tables
returns-clause-tables g c =
    let whole = layout (host.the_row (param 0 g.row.D) (number g.row.B) (param 2 g.row.A) g.D.Digest g.A.Allocator g.A.Clone) in
    let fits : size (layout (host.the_row (param 0 g.row.D) (number g.row.B) (param 2 g.row.A) g.D.Digest g.A.Allocator g.A.Clone)) < 2 ^ 63 = search rules in
    let shards = field_fits whole 3 fits in
    let mutex = elem (field (field whole 3) 0) in
    sixteen_fit (size (field (field mutex 1) 0)) (size (field mutex 1)) (size mutex) (field_smaller (field mutex 1) 0) (field_smaller mutex 1) (field_fits (field whole 3) 0 shards)

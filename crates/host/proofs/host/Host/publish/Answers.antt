use Rattle.std.proofs.Common.{rules, ◌<◌, ◌^◌, subst, IfOk}
use prog.Memory.{size}
use denote.Param.{layout, param, number}
use Rattle.boxcar.specs.Table.{Shows}
use Rattle.host.specs.Views.{HostView}
use Rattle.host.specs.contracts.host.Host as host
use Rattle.fitting.proofs.Sizes.{field_fits}
use Rattle.host.proofs.host.Host.publish.Goals as goal

pub publish-requires : goal.publish-requires
publish-requires g c =
    let whole = layout (host.the_row (param 0 g.row.D) (number g.row.B) (param 2 g.row.A) g.D.Digest g.A.Allocator g.A.Clone) in
    let fits : size (layout (host.the_row (param 0 g.row.D) (number g.row.B) (param 2 g.row.A) g.D.Digest g.A.Allocator g.A.Clone)) < 2 ^ 63 = search rules in
    (field_fits whole 5 fits, (search rules, c.requires))

pub returns-clause-shown : goal.returns-clause-shown
returns-clause-shown g c = subst (λ (h : HostView). IfOk c.publish.result (Shows h.shelf)) c.self.view_is c.publish.ensures.shown

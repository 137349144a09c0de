use Rattle.std.proofs.Common.{rules, ◌<◌, ◌^◌, sym, subst}
use prog.Memory.{size}
use denote.Param.{layout, param, number}
use Rattle.boxcar.specs.Table.{Shows}
use Rattle.host.specs.Views.{HostView}
use Rattle.host.specs.contracts.host.Host as host
use Rattle.host.specs.contracts.version.Receipt as receipt
use Rattle.fitting.proofs.Sizes.{field_fits}
use Rattle.host.proofs.host.Host.version.Goals as goal

pub version-requires : goal.version-requires
version-requires g c =
    let whole = layout (host.the_row (param 0 g.row.D) (number g.row.B) (param 2 g.row.A) g.D.Digest g.A.Allocator g.A.Clone) in
    let fits : size (layout (host.the_row (param 0 g.row.D) (number g.row.B) (param 2 g.row.A) g.D.Digest g.A.Allocator g.A.Clone)) < 2 ^ 63 = search rules in
    (field_fits whole 5 fits, (search rules, subst (λ (h : HostView). Shows h.shelf c.args.receipt.now) (sym c.self.view_is) c.requires))

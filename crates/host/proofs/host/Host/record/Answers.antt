use Rattle.std.proofs.Common.{rules, ◌<◌, ◌^◌, subst, sym}
use prog.Memory.{size}
use denote.Param.{layout, param, number}
use Rattle.host.specs.contracts.host.Host as host
use Rattle.host.specs.Seeing.{IsSeen, wanted_of}
use Rattle.host.proofs.Accepting.{ok_then}
use Rattle.host.proofs.host.Host.record.Goals as goal

pub read-requires : goal.read-requires
read-requires g c =
    let fits : size (layout (host.the_row (param 0 g.row.D) (number g.row.B) (param 2 g.row.A) g.D.Digest g.A.Allocator g.A.Clone)) < 2 ^ 63 = search (c.requires-raw.1, rules) in
    (fits, (c.fits_in_memory.ensures.core, search rules))

pub record_in-requires : goal.record_in-requires
record_in-requires g c = c.fits_in_memory.ensures.core

pub returns : goal.returns
returns g c =
    let seen = subst (IsSeen (wanted_of c.args.self.now c.args.repo c.args.seen)) (sym c.deref.ensures) c.read.ensures in
    ok_then c.record_in.result (λ r here. (_, seen, here.0, here.1)) c.record_in.ensures

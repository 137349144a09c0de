use Rattle.std.proofs.Common.{rules, ◌<◌, ◌^◌, subst, sym, ◌∙◌}
use prog.Memory.{size}
use denote.Param.{layout, param, number}
use Rattle.host.specs.contracts.host.Host as host
use Rattle.host.specs.Seeing.{IsSeen, wanted_of}
use Rattle.host.proofs.Accepting.{ok_then, version_is}
use Rattle.host.proofs.host.Host.version_from.Goals as goal

pub read-requires : goal.read-requires
read-requires g c =
    let fits : size (layout (host.the_row (param 0 g.row.D) (number g.row.B) (param 2 g.row.A) g.D.Digest g.A.Allocator g.A.Clone)) < 2 ^ 63 = search (c.requires-raw.1, rules) in
    (fits, (c.fits_in_memory.ensures.core, search rules))

pub version_in-requires : goal.version_in-requires
version_in-requires g c = c.fits_in_memory.ensures.core

pub returns-clause-lawful : goal.returns-clause-lawful
returns-clause-lawful g c =
    let seen = subst (IsSeen (wanted_of c.args.self.now c.args.repo c.args.seen)) (sym c.deref.ensures) c.read.ensures in
    version_is g.D.Digest.digest_of g.row.B _ _ _ seen c.version_in.ensures

pub returns-clause-state : goal.returns-clause-state
returns-clause-state g c =
    let seen = subst (IsSeen (wanted_of c.args.self.now c.args.repo c.args.seen)) (sym c.deref.ensures) c.read.ensures in
    ok_then c.version_in.result (λ v here. (_, seen, here.writes_are, here.number_is, here.root_is, here.repo_is ∙ seen.me_is)) c.version_in.ensures

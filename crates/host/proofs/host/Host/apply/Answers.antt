use Rattle.std.proofs.Common.{rules, arith, subst, sym, ◌<◌, ◌^◌}
use prog.Memory.{size}
use denote.Param.{layout, param, number}
use Rattle.host.specs.contracts.host.Host as host
use Rattle.fitting.proofs.Sizes.{field_fits}
use Rattle.host.specs.Seeing.{IsSeen, wanted_of}
use Rattle.host.proofs.Accepting.{taken, untaken}
use Rattle.host.proofs.host.Host.apply.Goals as goal

pub write-core-requires : goal.write-core-requires
write-core-requires g c =
    let fits : size (layout (host.the_row (param 0 g.row.D) (number g.row.B) (param 2 g.row.A) g.D.Digest g.A.Allocator g.A.Clone)) < 2 ^ 63 = search (c.requires-raw.1, rules) in
    (fits, (c.fits_in_memory.ensures.core, search rules))

pub apply_from_at-requires : goal.apply_from_at-requires
apply_from_at-requires g c = (c.fits_in_memory.ensures.core, search rules)

pub returns-clause-accepted : goal.returns-clause-accepted
returns-clause-accepted g c =
    let seen = subst (IsSeen (wanted_of c.args.self.now c.args.repo c.args.seen)) (sym c.deref_mut.ensures.value) c.write-core.ensures in
    taken g.D.Digest.digest_of g.row.B _ _ _ _ c.args.stamp.now c.args.writes.now _ seen c.apply_from_at.ensures.root c.apply_from_at.ensures.accepted

pub returns-clause-refused : goal.returns-clause-refused
returns-clause-refused g c =
    let seen = subst (IsSeen (wanted_of c.args.self.now c.args.repo c.args.seen)) (sym c.deref_mut.ensures.value) c.write-core.ensures in
    untaken g.D.Digest.digest_of g.row.B _ _ _ c.args.stamp.now c.args.writes.now _ _ _ seen c.apply_from_at.ensures.refused

pub drop-core-requires-room-T-Destruct : goal.drop-core-requires-room-T-Destruct
drop-core-requires-room-T-Destruct g c κs within = c.fits_in_memory.ensures.core

pub new-store-requires : goal.new-store-requires
new-store-requires g c =
    let whole = layout (host.the_row (param 0 g.row.D) (number g.row.B) (param 2 g.row.A) g.D.Digest g.A.Allocator g.A.Clone) in
    let fits : size (layout (host.the_row (param 0 g.row.D) (number g.row.B) (param 2 g.row.A) g.D.Digest g.A.Allocator g.A.Clone)) < 2 ^ 63 = search (c.requires-raw.1, rules) in
    (field_fits whole 3 fits, omega arith)

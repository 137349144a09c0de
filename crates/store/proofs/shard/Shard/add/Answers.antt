use Rattle.std.proofs.Common.{◌≡◌, ◌<◌, ◌≤◌, sym, ap, subst, ◌∙◌, refl, None, arith, rules}
use Rattle.std.specs.Arc.{arc_value}
use Rattle.std.specs.FinMap as map
use Rattle.std.specs.HashMap.{hasher_of}
use Rattle.store.specs.Places.{held_in, held_of}
use Rattle.store.specs.Table.{Table, entered}
use Rattle.store.proofs.Places.{entry_new, no_more, none_held, size_held, sound_added, sound_grown, view_added, view_grown, view_under}
use Rattle.store.proofs.Tables.{at, get_view, len_view}
use Rattle.store.proofs.shard.Shard.add.Goals as goal

pub returns-then-entries-self-clause-fault : goal.returns-then-entries-self-clause-fault
returns-then-entries-self-clause-fault g c =
    let size = size_held c.self.inside.sets.slots c.self.inside.table.entries c.len-entries.ensures.unique in
    subst (λ (t : Table). t.limit ≤ map.len t.entries) c.self.view_is (omega (arith, size, c.len-entries.ensures.len))

pub returns-in_err-held-clause-fault : goal.returns-in_err-held-clause-fault
returns-in_err-held-clause-fault g c =
    let size = size_held c.self.inside.sets.slots c.self.inside.table.entries c.len-entries.ensures.unique in
    let free : map.len c.args.self.now.entries < c.args.self.now.limit =
    subst (λ (t : Table). map.len t.entries < t.limit) c.self.view_is (omega (arith, size, c.len-entries.ensures.len)) in
    search rules

pub make_room-requires-clause-few : goal.make_room-requires-clause-few
make_room-requires-clause-few g c =
    let es = c.self.inside.table.entries in
    let few = no_more es c.self.inside.sets c.self.invariant.placed in
    let size = len_view es c.len-entries.ensures.unique in
    omega (arith, few, size, c.len-entries.ensures.len)

pub invariant_of-self : goal.invariant_of-self
invariant_of-self g c =
    sound_grown g.D.Digest.digest_of c.self.inside.table.entries c.self.inside.table.entries c.self.inside.sets c.make_room.new.sets c.self.inside.limit c.self.invariant
    refl c.make_room.ensures.values c.make_room.ensures.capacity

pub returns-in_err-make_room-clause-fault : goal.returns-in_err-make_room-clause-fault
returns-in_err-make_room-clause-fault g c =
    let size = size_held c.self.inside.sets.slots c.self.inside.table.entries c.len-entries.ensures.unique in
    let free : map.len c.args.self.now.entries < c.args.self.now.limit =
    subst (λ (t : Table). map.len t.entries < t.limit) c.self.view_is (omega (arith, size, c.len-entries.ensures.len)) in
    search rules

pub returns-in_err-make_room-clause-unchanged : goal.returns-in_err-make_room-clause-unchanged
returns-in_err-make_room-clause-unchanged g c =
    let same = view_grown c.self.inside.table.entries c.self.inside.table.entries c.self.inside.sets c.make_room.new.sets c.self.inside.limit (hasher_of c.self.inside.table)
    refl c.make_room.ensures.values
    ∙ c.self.view_is in
    search rules

pub invariant_of-self-in_err-insert : goal.invariant_of-self-in_err-insert
invariant_of-self-in_err-insert g c =
    sound_grown g.D.Digest.digest_of c.self.inside.table.entries c.insert.new.self.entries c.self.inside.sets c.make_room.new.sets c.self.inside.limit c.self.invariant
    c.in_err-insert.ensures.err c.make_room.ensures.values c.make_room.ensures.capacity

pub returns-in_err-insert-clause-unchanged : goal.returns-in_err-insert-clause-unchanged
returns-in_err-insert-clause-unchanged g c =
    let same = view_under (held_in c.make_room.new.sets.slots c.insert.new.self.entries) c.self.inside.limit _ _ c.insert.ensures.hasher
    ∙ view_grown c.self.inside.table.entries c.insert.new.self.entries c.self.inside.sets c.make_room.new.sets c.self.inside.limit (hasher_of c.self.inside.table)
    c.in_err-insert.ensures.err c.make_room.ensures.values
    ∙ c.self.view_is in
    search rules

pub returns-in_err-insert-clause-fault : goal.returns-in_err-insert-clause-fault
returns-in_err-insert-clause-fault g c =
    let size = size_held c.self.inside.sets.slots c.self.inside.table.entries c.len-entries.ensures.unique in
    let free : map.len c.args.self.now.entries < c.args.self.now.limit =
    subst (λ (t : Table). map.len t.entries < t.limit) c.self.view_is (omega (arith, size, c.len-entries.ensures.len)) in
    search rules

pub invariant_of-self-2 : goal.invariant_of-self-2
invariant_of-self-2 g c =
    let es = c.self.inside.table.entries in
    let s = c.self.inside.sets in
    let t = c.make_room.new.sets in
    let none : at es c.args.cid ≡ None = none_held s.slots es c.args.cid (sym (get_view (held_in s.slots es) c.args.cid) ∙ ap (λ (u : Table). map.get u.entries c.args.cid) c.self.view_is ∙ c.requires.new) in
    let size = len_view es c.len-entries.ensures.unique in
    let held_size = size_held s.slots es c.len-entries.ensures.unique in
    let room = c.in_ok-make_room.ensures.room in
    sound_added g.D.Digest.digest_of es c.insert.new.self.entries s t c.self.inside.limit c.args.cid c.new.result c.self.invariant none c.new.ensures.alone
    (omega (arith, held_size, c.len-entries.ensures.len))
    (omega (arith, size, room, c.len-entries.ensures.len))
    c.make_room.ensures.values c.make_room.ensures.capacity c.in_ok-insert.ensures.updates.0
    (entry_new g.D.Digest.digest_of c.args.cid (arc_value c.args.block) (held_of t.slots c.new.result) c.args.core c.requires.small c.requires.cid
    (c.new.ensures.bytes ∙ c.in_ok-held.ensures) (c.new.ensures.core t.slots))

pub returns-clause-entered : goal.returns-clause-entered
returns-clause-entered g c =
    let es = c.self.inside.table.entries in
    let s = c.self.inside.sets in
    let t = c.make_room.new.sets in
    let none : at es c.args.cid ≡ None = none_held s.slots es c.args.cid (sym (get_view (held_in s.slots es) c.args.cid) ∙ ap (λ (u : Table). map.get u.entries c.args.cid) c.self.view_is ∙ c.requires.new) in
    view_under (held_in t.slots c.insert.new.self.entries) c.self.inside.limit _ _ c.insert.ensures.hasher
    ∙ view_added es c.insert.new.self.entries s t c.self.inside.limit (hasher_of c.self.inside.table) c.args.cid c.new.result (arc_value c.args.block) c.args.core c.self.invariant.placed none
    c.make_room.ensures.values c.make_room.ensures.capacity c.new.ensures.alone c.in_ok-insert.ensures.updates.0
    (c.new.ensures.bytes ∙ c.in_ok-held.ensures) (c.new.ensures.core t.slots)
    ∙ ap (λ (u : Table). entered u c.args.cid (arc_value c.args.block) c.args.core) c.self.view_is

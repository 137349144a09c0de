use Rattle.std.proofs.Common.{sym, ap, subst, ◌∙◌, Some}
use Rattle.std.specs.FinSet as set
use Rattle.slab.specs.Slab.{with_value}
use Rattle.store.specs.Cores.{IsSetOfMore}
use Rattle.store.specs.Places.{cores_in, key_of, IsMoved, IsNumbered}
use Rattle.store.proofs.CoreSets.{again, both, one_more}
use Rattle.store.proofs.Places.{more_at, moved_new, moved_written}
use Rattle.store.proofs.shard.entry.Holders.enter.Goals as goal

pub returns-then-held-core-clause-moved : goal.returns-then-held-core-clause-moved
returns-then-held-core-clause-moved g c =
    subst (λ h. IsMoved c.args.sets.now c.insert_reserved.new.self (key_of h) (Some c.insert_reserved.result)) (sym c.in-One.is)
    (moved_new c.args.sets.now c.insert_reserved.new.self c.insert_reserved.result c.insert.new.self
    c.insert_reserved.ensures.was_vacant c.insert_reserved.ensures.updates
    (subst IsSetOfMore (sym (c.insert.ensures ∙ ap (λ s. set.insert s c.args.core) c.of-both.ensures))
    (both c.in-One.held c.args.core (subst IsNumbered c.in-One.is c.requires.numbered) c.requires.small c.if-held-core.true))
    c.insert_reserved.ensures.capacity)

pub returns-else-held-core-clause-entered : goal.returns-else-held-core-clause-entered
returns-else-held-core-clause-entered g c =
    ap (cores_in c.args.sets.now.slots) c.in-One.is
    ∙ again c.in-One.held
    ∙ ap (set.insert (set.insert set.empty c.in-One.held)) c.if-held-core.false
    ∙ ap (λ h. set.insert (cores_in c.args.sets.now.slots h) c.args.core) (sym c.in-One.is)

pub returns-in-Some-clause-moved : goal.returns-in-Some-clause-moved
returns-in-Some-clause-moved g c =
    let key = c.in-Several.key in
    let old = c.in-Some.cores.now in
    subst (λ h. IsMoved c.args.sets.now (with_value c.args.sets.now key c.insert-in-Some.new.self) (key_of h) (key_of h)) (sym c.in-Several.is)
    (moved_written c.args.sets.now key old c.insert-in-Some.new.self (sym c.in-Some.ensures.value)
    (subst IsSetOfMore (sym c.insert-in-Some.ensures)
    (one_more old c.args.core c.requires.small
    (more_at c.args.sets.now key old (sym c.in-Some.ensures.value) (c.requires.there key (ap key_of c.in-Several.is))))))

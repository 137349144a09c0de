use Rattle.std.specs.Ordering.{nat_cmp}
use Rattle.std.proofs.Common.{◌≡◌, ℕ, ◌<◌, true, sym, subst}
use Rattle.std.specs.FinSet as set
use Rattle.store.proofs.Places.{more_at, stays}
use Rattle.store.proofs.CoreSets.{small_left}
use Rattle.store.proofs.shard.entry.without.Goals as goal

pub only-requires : goal.only-requires
only-requires g c =
    let old = c.in-Some.cores.now in
    subst (λ (s : set.FinSet nat_cmp). (core : ℕ) → set.contains s core ≡ true → core < 1024) (sym c.remove.ensures)
    (small_left old c.args.core (more_at c.args.sets.now c.args.key old (sym c.in-Some.ensures.value) c.requires.there))

pub returns-in_default-only : goal.returns-in_default-only
returns-in_default-only g c =
    stays c.args.sets.now c.args.key c.args.core c.in-Some.cores.now c.remove.new.self (sym c.in-Some.ensures.value) c.remove.ensures
    c.requires.there c.in_default-only.ensures

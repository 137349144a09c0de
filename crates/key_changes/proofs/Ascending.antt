-- What the test of changes says of them.
use Rattle.std.proofs.Common.{◌≡◌, ℕ, true, ◌&&◌, List, [], ◌∷◌, refl, ap, ◌∙◌}
use Rattle.std.specs.List.{AllByRecursion}
use Rattle.std.specs.declared.cmp.Ordering.{Ordering}
use Rattle.std.specs.declared.cmp.Ordering.TheVariants.{Less, Equal, Greater}
use Rattle.spec.specs.NodeFormat.{is_key}
use Rattle.spec.proofs.Bools.{both, and}
use Rattle.edit_laws.specs.Order.{order}
use Rattle.edit_laws.proofs.Orders.{after-trans}
use Rattle.batch_laws.specs.Batch.{Change, IsLater, AreAscending, AreKeyed}
use Rattle.key_changes.specs.Keyed.{is_greater, are_later, are_ascending, have_keys, are_changes}

pub greater-than : (o : Ordering) → is_greater o ≡ true → o ≡ Greater
greater-than Less h = absurd cc
greater-than Equal h = absurd cc
greater-than Greater h = refl

pub later-than : (key k : List ℕ) (cs : List Change) → order k key ≡ Greater → AllByRecursion (IsLater k) cs
    → AllByRecursion (IsLater key) cs
later-than key k [] g h = tt
later-than key k (c ∷ cs) g h = (after-trans c.0 k key h.0 g, later-than key k cs g h.1)

pub later-all : (key : List ℕ) (cs : List Change) → are_later key cs ≡ true → AllByRecursion (IsLater key) cs
later-all key [] h = tt
later-all key (c ∷ cs) h =
    let b = both (is_greater (order c.0 key)) (are_later key cs) h in
    (greater-than (order c.0 key) b.0, later-all key cs b.1)

pub all-later : (key : List ℕ) (cs : List Change) → AllByRecursion (IsLater key) cs → are_later key cs ≡ true
all-later key [] h = refl
all-later key (c ∷ cs) h = ap (λ o. is_greater o && are_later key cs) h.0 ∙ all-later key cs h.1

pub ascends : (cs : List Change) → are_ascending cs ≡ true → AreAscending cs
ascends [] h = tt
ascends (c ∷ cs) h =
    let b = both (are_later c.0 cs) (are_ascending cs) h in
    (later-all c.0 cs b.0, ascends cs b.1)

pub ascends-back : (cs : List Change) → AreAscending cs → are_ascending cs ≡ true
ascends-back [] h = refl
ascends-back (c ∷ cs) h = ap (λ b. b && are_ascending cs) (all-later c.0 cs h.0) ∙ ascends-back cs h.1

all-keys : (cs : List Change) → have_keys cs ≡ true → AllByRecursion (λ c. is_key c.0 ≡ true) cs
all-keys [] h = tt
all-keys (c ∷ cs) h = let b = both (is_key c.0) (have_keys cs) h in (b.0, all-keys cs b.1)

pub are-keyed : (cs : List Change) → are_changes cs ≡ true → AreKeyed cs
are-keyed cs h =
    let b = both (are_ascending cs) (have_keys cs) h in
    record { ascending = ascends cs b.0; keys = all-keys cs b.1 }

keys-back : (cs : List Change) → AllByRecursion (λ c. is_key c.0 ≡ true) cs → have_keys cs ≡ true
keys-back [] h = refl
keys-back (c ∷ cs) h = and (is_key c.0) (have_keys cs) h.0 (keys-back cs h.1)

pub keyed-changes : (cs : List Change) → AreKeyed cs → are_changes cs ≡ true
keyed-changes cs h = and (are_ascending cs) (have_keys cs) (ascends-back cs h.ascending) (keys-back cs h.keys)

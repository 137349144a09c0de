-- Where a key stands among changes.
use Rattle.std.specs.Prelude.{◌≡◌, ℕ, Bool, true, false, List, [], ◌∷◌, ◌++◌, take, drop, Option}
use Rattle.std.specs.Ordering.{is_lt}
use Rattle.edit_laws.specs.Order.{order}
use Rattle.batch_laws.specs.Batch.{Change, before, at_key, after}
use Rattle.key_changes.specs.Keyed.{are_ascending}

abbrev pub is_first_before : List ℕ → List Change → Bool
is_first_before key [] = false
is_first_before key (c ∷ cs) = is_lt (order c.0 key)

-- the first so many of some changes are before a key
pub record IsPlace (key : List ℕ) (cs : List Change) (i : ℕ) : Type 0 where
  pub before_is : before key cs ≡ take i cs ++ before key (drop i cs)
  pub at_is : at_key key cs ≡ at_key key (drop i cs)
  pub after_is : after key cs ≡ after key (drop i cs)

-- these are the changes before a key, the one at it, and those after it
pub record IsAround (key : List ℕ) (cs front : List Change) (at : Option (Option (List ℕ))) (back : List Change)
    : Type 0 where
  pub before_is : front ≡ before key cs
  pub at_is : at ≡ at_key key cs
  pub after_is : back ≡ after key cs
  pub ascending_before : are_ascending front ≡ true
  pub ascending_after : are_ascending back ≡ true

-- Changes of keys, each told with what its key had before and what it has after.
use Rattle.std.specs.Prelude.{◌≡◌, ℕ, List, map, Option, None}
use Rattle.std.specs.List.{AllByRecursion}
use Rattle.spec.specs.Tree.{Pair}
use Rattle.spec.specs.Blocks.{value_of}
use Rattle.batch_laws.specs.Batch.{Change, at_key}

-- a key, and the CID of its record before and after, or none where there is no such key
pub record KeyChange : Type 0 where
  pub key : List ℕ
  pub before : Option (List ℕ)
  pub after : Option (List ℕ)

-- the same undone: what makes the old pairs of the new ones
abbrev pub undone : List KeyChange → List Change
undone cs = map (λ c. (c.key, c.before)) cs

-- two lists of pairs differ by these changes: each key had and has what is told, and the other keys have what they had
pub record DifferBy (cs : List KeyChange) (old new : List Pair) : Type 0 where
  pub before : AllByRecursion (λ c. value_of c.key old ≡ c.before) cs
  pub after : AllByRecursion (λ c. value_of c.key new ≡ c.after) cs
  pub others : (key : List ℕ) → at_key key (undone cs) ≡ None → value_of key old ≡ value_of key new

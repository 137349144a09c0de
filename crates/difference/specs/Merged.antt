-- Two lists of pairs that are merged from their ends.
use Rattle.std.specs.Prelude.{◌≡◌, ℕ, ◌<◌, List, [], ◌∷◌, ◌++◌, map, length}
use Rattle.std.specs.declared.cmp.Ordering.{Ordering}
use Rattle.std.specs.declared.cmp.Ordering.TheVariants.{Less, Equal, Greater}
use Rattle.spec.specs.Tree.{Pair}
use Rattle.edit_laws.specs.Order.{order}
use Rattle.edit_laws.specs.Pairs.{Each, IsBefore, Ascending}
use Rattle.change_laws.specs.Told.{KeyChange}
use Rattle.difference_laws.specs.Laws.{front}
use Rattle.difference.specs.Keys.{key_in}
use Rattle.difference.specs.declared.line.Row.{Row}
use Rattle.difference.specs.declared.merging.Greatest.{Greatest}
use Rattle.difference.specs.declared.outcome.KeyDifference.{KeyDifference}
use Rattle.difference.specs.declared.faults.DifferenceFault.{DifferenceFault}
use Rattle.difference.specs.declared.faults.DifferenceFault.TheVariants.{BlockMissing, BadNode, TooDeep, NotTree, NoMemory}

abbrev pub pair_of : {A : Type 0} → Row A → Pair
pair_of r = (key_in r.key, r.value)

-- the pairs of some rows
abbrev pub pairs_in : {A : Type 0} → List (Row A) → List Pair
pairs_in rs = map pair_of rs

-- the changes of the code
abbrev pub told_of : {A : Type 0} → KeyDifference A → KeyChange
told_of c = record { key = c.key.items; before = c.before; after = c.after }

-- the greatest key and what two lists have of it
abbrev pub greatest_of : {A : Type 0} → Greatest A → KeyChange
greatest_of l = record { key = key_in l.key; before = l.before; after = l.after }

abbrev pub changes_told : {A : Type 0} → List (KeyDifference A) → List KeyChange
changes_told cs = map told_of cs

-- the list with the greater last key has one, and both have where they are the same
abbrev pub HasLast : ℕ → ℕ → Ordering → Type 0
HasLast m n Less = 0 < n
HasLast m n Equal = (0 < m) × (0 < n)
HasLast m n Greater = 0 < m

-- how the last keys of two lists stand to each other; the list that has pairs has the greater one where the other has none
pub record AreLast (es fs : List Pair) (o : Ordering) : Type 0 where
  pub has : HasLast (length es) (length fs) o
  pub is : (xs ys : List Pair) (e f : Pair) → es ≡ xs ++ (e ∷ []) → fs ≡ ys ++ (f ∷ []) → order e.0 f.0 ≡ o

-- the greatest key went from two lists, with what it has in each; all others are before it
pub record IsLastOf (es fs xs ys : List Pair) (c : KeyChange) : Type 0 where
  pub old : es ≡ xs ++ front c.before c.key []
  pub new : fs ≡ ys ++ front c.after c.key []
  pub old_before : Ascending es → Each (IsBefore c.key) xs
  pub new_before : Ascending fs → Each (IsBefore c.key) ys

-- keys don't ascend, or memory was wanted
abbrev pub IsUnsorted : List Pair → List Pair → DifferenceFault → Type 0
IsUnsorted es fs (BlockMissing c) = ⊥
IsUnsorted es fs (BadNode c) = ⊥
IsUnsorted es fs TooDeep = ⊥
IsUnsorted es fs NotTree = ¬ (Ascending es × Ascending fs)
IsUnsorted es fs NoMemory = Unit {0}

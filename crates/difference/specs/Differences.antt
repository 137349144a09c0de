-- What is answered where two trees are compared.
use Rattle.std.specs.Prelude.{◌≡◌, ◌≢◌, ◌↔◌, ◌⊎◌, Contains, ℕ, ◌+◌, ◌≤◌, max, List, [], ◌++◌, map, length, Option, None, Result, Ok, Err, IsSome, IfOk, IfErr}
use Rattle.std.specs.Arc.{arc_value}
use Rattle.std.specs.declared.sync.Arc.{Arc}
use Rattle.spec.specs.Cid.{cid}
use Rattle.spec.specs.Layer.{layer}
use Rattle.spec.specs.Tree.{Pair}
use Rattle.spec.specs.Blocks.{nodes}
use Rattle.edit_laws.specs.Changes.{count}
use Rattle.edit_laws.specs.Pairs.{Ascending}
use Rattle.lookups.specs.Steps.{nodes_given}
use Rattle.lookups.specs.Trees.{HasTree, bytes_given}
use Rattle.batch_laws.specs.Batch.{AreKeyed}
use Rattle.change_laws.specs.Told.{KeyChange, undone}
use Rattle.difference_laws.specs.Lines.{Side, Stop, NotShown, links_in, pairs_of, compared}
use Rattle.difference_laws.specs.Lines as lines
use Rattle.difference_laws.specs.Laws.{IsDifference, blocks_read}
use Rattle.difference.specs.Merged.{changes_told}
use Rattle.difference.specs.declared.outcome.Difference.{Difference}
use Rattle.difference.specs.declared.faults.DifferenceFault.{DifferenceFault}
use Rattle.difference.specs.declared.faults.DifferenceFault.TheVariants.{BlockMissing, BadNode, TooDeep, NotTree, NoMemory}

-- ---- of two trees

-- what makes one tree of another
pub record IsDifferenceOf (digest : List ℕ → List ℕ) (bits : ℕ) (es fs : List Pair) (changes : List KeyChange)
    (come : List (List ℕ)) (go : List (List ℕ)) : Type 0 where
  -- the keys that differ, in order, each a key of the grammar with what it has in both
  pub differ : IsDifference changes es fs
  pub keyed : AreKeyed (undone changes)
  -- just the new nodes that aren't old, each once, and the CIDs of the old ones that aren't new
  pub come_is : (b : List ℕ) → Contains come b ↔ (Contains (nodes digest bits fs) b × ¬ Contains (nodes digest bits es) b)
  pub come_once : (b : List ℕ) → count b come ≤ 1
  pub go_is : (c : List ℕ) → Contains go c
      ↔ ((b : List ℕ) × Contains (nodes digest bits es) b × (¬ Contains (nodes digest bits fs) b) × (cid digest b ≡ c))
  pub go_once : (c : List ℕ) → count c go ≤ 1

-- P holds of whatever pairs the trees with these roots have in one source
abbrev pub OfTrees : {A : Type 0} → (List ℕ → List ℕ) → ℕ → (List ℕ → Option (Arc (List ℕ) A)) → List ℕ → List ℕ
    → (List Pair → List Pair → Type 0) → Type 0
OfTrees digest bits gives old new P = (es fs : List Pair) → HasTree digest bits (bytes_given gives) old es
    → HasTree digest bits (bytes_given gives) new fs → P es fs

-- no fault of the source comes
abbrev pub IsWant : DifferenceFault → Type 0
IsWant (BlockMissing c) = ⊥
IsWant (BadNode c) = ⊥
IsWant TooDeep = ⊥
IsWant NotTree = ⊥
IsWant NoMemory = Unit {0}

-- ---- over any source

-- what both trees come to: the blocks of the new one that were read, the CIDs of those of the old one, and the lines' difference
pub record AreTold (digest : List ℕ → List ℕ) (old new : Side) (changes : List KeyChange) (come go : List (List ℕ))
    : Type 0 where
  pub old_ends : links_in old.line ≡ []
  pub new_ends : links_in new.line ≡ []
  pub old_ascends : Ascending (pairs_of old.line)
  pub new_ascends : Ascending (pairs_of new.line)
  pub differ : IsDifference changes (pairs_of old.line) (pairs_of new.line)
  pub come_are : come ≡ blocks_read new
  pub go_are : go ≡ map (cid digest) (blocks_read old)

-- the end isn't that of two trees: a link stands below layer 0; or there is none, and keys don't ascend
abbrev pub IsUnended : Side → Side → DifferenceFault → Type 0
IsUnended old new (BlockMissing c) = ⊥
IsUnended old new (BadNode c) = ⊥
IsUnended old new TooDeep = links_in old.line ++ links_in new.line ≢ []
IsUnended old new NotTree = (links_in old.line ≡ []) × (links_in new.line ≡ [])
    × ¬ (Ascending (pairs_of old.line) × Ascending (pairs_of new.line))
IsUnended old new NoMemory = Unit {0}

-- opening ended at two sides, of which P holds
pub record EndsAt (step : Result (Side × Side) Stop) (P : Side → Side → Type 0) : Type 0 where
  pub old : Side
  pub new : Side
  pub is : step ≡ Ok (old, new)
  pub holds : P old new

-- both trees opened come to what is told
abbrev pub IsTold : {D A : Type 0} → (List ℕ → List ℕ) → Result (Side × Side) Stop → Difference D A → Type 0
IsTold digest step d =
    EndsAt step (λ a b. AreTold digest a b (changes_told d.changes.items) (map arc_value d.come.items) d.go.items)

-- Why there is no difference: the source lacks just the block at which opening stops, or gives one that is no node; a link
-- stands below layer 0; a link stands twice on one layer, or keys don't ascend; or memory was wanted.
abbrev pub IsReason : {A : Type 0} → (List ℕ → Option A) → Result (Side × Side) Stop → DifferenceFault → Type 0
IsReason gives step (BlockMissing c) = (gives c ≡ None) × (step ≡ Err (NotShown c))
IsReason gives step (BadNode c) = IsSome (gives c) × (step ≡ Err (NotShown c))
IsReason gives step TooDeep = EndsAt step (λ a b. IsUnended a b TooDeep)
IsReason gives step NotTree = (step ≡ Err lines.NotTree) ⊎ EndsAt step (λ a b. IsUnended a b NotTree)
IsReason gives step NoMemory = Unit {0}

-- how often a source was asked: for each block that was read, and once at least for each root
abbrev pub asked_for : {D A : Type 0} → Difference D A → ℕ
asked_for d = max 1 (length d.come.items) + max 1 (length d.go.items)

-- nothing differs
abbrev pub IsNothing : {D A : Type 0} → Difference D A → Type 0
IsNothing d = (d.changes.items ≡ []) × (d.come.items ≡ []) × (d.go.items ≡ [])

module _ {D A : Type 0} (digest : List ℕ → List ℕ) (bits : ℕ) (gives : List ℕ → Option (Arc (List ℕ) A)) (old new : List ℕ)
    (result : Result (Difference D A) DifferenceFault) where
  -- of two trees it is the difference
  abbrev pub IsCompared : Type 0
  IsCompared = OfTrees digest bits gives old new (λ es fs. IfOk result (λ d.
      IsDifferenceOf digest bits es fs (changes_told d.changes.items) (map arc_value d.come.items) d.go.items))

  -- over any source it is what opening comes to, or the reason why that stops
  abbrev pub IsOpened : Type 0
  IsOpened = old ≢ new → IfOk result (IsTold digest (compared (nodes_given gives) (layer digest bits) old new))

  abbrev pub IsLack : Type 0
  IsLack = IfErr result (IsReason gives (compared (nodes_given gives) (layer digest bits) old new))

  -- two trees want nothing but memory
  abbrev pub IsNoFault : Type 0
  IsNoFault = OfTrees digest bits gives old new (λ es fs. IfErr result IsWant)

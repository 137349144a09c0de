-- What is answered where changes are to be proved: of the pairs of a tree, of a repository, and over any source.
use Rattle.std.specs.Prelude.{◌≡◌, ⊤, Contains, ℕ, List, map, ◌++◌, Option, Some, None, Result, Ok, Err, IsSome}
use Rattle.std.specs.Arc.{arc_value}
use Rattle.std.specs.declared.sync.Arc.{Arc}
use Rattle.spec.specs.Layer.{layer}
use Rattle.spec.specs.Tree.{Pair}
use Rattle.spec.specs.NodeFormat.{Shape}
use Rattle.spec.specs.Blocks.{ArePairs, ClashesWithNone, nodes, pairs, root as root_of}
use Rattle.spec.specs.States.{State, records, state_root}
use Rattle.edit_laws.specs.Laws.Edits.{bytes_of}
use Rattle.lookups.specs.Steps.{nodes_given}
use Rattle.batch_laws.specs.Links.{LinkTooDeep, Log, NotShown, StopsAt}
use Rattle.batch_laws.specs.Previous.{previous_top, values}
use Rattle.edit.specs.Batches.{answer_of as answer_over, most_of}
use Rattle.batch_laws.specs.Within.{IsWithin, at_top}
use Rattle.change_laws.specs.Told.{KeyChange, undone, DifferBy}
use Rattle.change_laws.specs.Given.{ChangeFault as GivenFault, OtherValue as HasOtherValue}
use Rattle.change_laws.specs.Verdict.{are_told, change_verdict}
use Rattle.change_laws.specs.Laws.{change_path}
use Rattle.change_proofs.specs.declared.change_fault.ChangeFault.{ChangeFault}
use Rattle.change_proofs.specs.declared.change_fault.ChangeFault.TheVariants.{BlockMissing, BadNode, TooDeep, NotTree, OtherValue, OtherRoot, NoMemory}
use Rattle.change_proofs.specs.declared.proving_fault.ProvingFault.{ProvingFault}
use Rattle.change_proofs.specs.declared.proving_fault.ProvingFault.TheVariants as provings

-- whether keys with these values have those that are told after the changes; a fault says no more than that
abbrev pub IsOtherValue : List (Option (List ℕ)) → List KeyChange → ChangeFault → Type 0
IsOtherValue vs cs (BlockMissing c) = ⊥
IsOtherValue vs cs (BadNode c) = ⊥
IsOtherValue vs cs TooDeep = ⊥
IsOtherValue vs cs NotTree = ⊥
IsOtherValue vs cs (OtherValue place) = are_told 0 vs cs ≡ Err (HasOtherValue place)
IsOtherValue vs cs OtherRoot = ⊥
IsOtherValue vs cs NoMemory = ⊥

-- ---- of the pairs of a tree

-- the keys have the values in these pairs that are told after the changes, or the first that hasn't stands at a place
abbrev pub told_by : List Pair → List KeyChange → Result (Unit {0}) GivenFault
told_by es cs = are_told 0 (values (undone cs) es) cs

-- each key has the value that is told, and these are the nodes that undoing reads
pub record AreNodes (digest : List ℕ → List ℕ) (bits : ℕ) (cs : List KeyChange) (es : List Pair)
    (proof : List (List ℕ)) : Type 0 where
  pub told : told_by es cs ≡ Ok tt
  pub nodes_are : proof ≡ change_path digest bits cs es

-- a key has another value, or memory is wanted
abbrev pub IsFaultOf : List Pair → List KeyChange → ChangeFault → Type 0
IsFaultOf es cs (BlockMissing c) = ⊥
IsFaultOf es cs (BadNode c) = ⊥
IsFaultOf es cs TooDeep = ⊥
IsFaultOf es cs NotTree = ⊥
IsFaultOf es cs (OtherValue place) = told_by es cs ≡ Err (HasOtherValue place)
IsFaultOf es cs OtherRoot = ⊥
IsFaultOf es cs NoMemory = ⊤

-- ---- of a repository

-- these are the nodes of its tree that undoing reads
abbrev pub IsProofOf : {A : Type 0} → (List ℕ → List ℕ) → ℕ → State → List KeyChange → List (Arc (List ℕ) A) → Type 0
IsProofOf digest bits s cs proof = AreNodes digest bits cs (pairs digest (records s)) (map arc_value proof)

-- Wherever these nodes are given, changes that led to the repository's tree from other pairs are shown.
abbrev pub ShowsChanges : {A : Type 0} → (List ℕ → List ℕ) → ℕ → State → List KeyChange → List (Arc (List ℕ) A) → Type 0
ShowsChanges digest bits s cs proof = (old : List Pair) → ArePairs old → DifferBy cs old (pairs digest (records s))
    → (given : List (List ℕ)) → ClashesWithNone digest (nodes digest bits (pairs digest (records s))) given
    → ((b : List ℕ) → Contains (map arc_value proof) b → Contains given b)
    → change_verdict digest bits (root_of digest bits old) (state_root digest bits s) given cs ≡ Ok tt

-- why there is no proof
abbrev pub IsUntrue : (List ℕ → List ℕ) → State → List KeyChange → ProvingFault → Type 0
IsUntrue digest s cs (provings.OtherValue place) = told_by (pairs digest (records s)) cs ≡ Err (HasOtherValue place)
IsUntrue digest s cs provings.NoMemory = ⊤

-- what a fault over a source is to it; the others don't come
abbrev pub proving_fault_of : ChangeFault → ProvingFault
proving_fault_of (BlockMissing c) = provings.NoMemory
proving_fault_of (BadNode c) = provings.NoMemory
proving_fault_of TooDeep = provings.NoMemory
proving_fault_of NotTree = provings.NoMemory
proving_fault_of (OtherValue place) = provings.OtherValue place
proving_fault_of OtherRoot = provings.NoMemory
proving_fault_of NoMemory = provings.NoMemory

-- ---- over a source

module _ {A : Type 0} (digest : List ℕ → List ℕ) (bits : ℕ) (gives : List ℕ → Option (Arc (List ℕ) A)) (root : List ℕ)
    (cs : List KeyChange) where
  -- of the values that the batch which undoes the changes meets this is told
  abbrev pub Tells : Result (Unit {0}) GivenFault → Type 0
  Tells told = (top : Shape) → nodes_given gives root ≡ Some top
      → are_told 0 (previous_top (nodes_given gives) (layer digest bits) (undone cs) top) cs ≡ told

  -- each key has the value that is told, and these are the nodes that the batch reads
  pub record AreNodesOver (proof : List (List ℕ)) : Type 0 where
    pub new : List ℕ
    pub left : List Shape
    pub log : Log
    pub is : answer_over digest bits gives (undone cs) root ≡ Ok ((new, left), log)
    pub told : Tells (Ok tt)
    pub nodes_are : proof ≡ bytes_of (log.read ++ left)

  -- Why there are none: the source lacks the block with this CID, or gives one that is no node, and there the batch stops; it
  -- stops at a link below layer 0; as far as it comes, it reads more nodes than these, or keys don't ascend in a node that it
  -- makes; a key has another value; or memory is wanted.
  abbrev pub IsLackOver : ChangeFault → Type 0
  IsLackOver (BlockMissing c) =
      (gives c ≡ None) × StopsAt (NotShown c) (answer_over digest bits gives (undone cs) root)
  IsLackOver (BadNode c) = IsSome (gives c) × StopsAt (NotShown c) (answer_over digest bits gives (undone cs) root)
  IsLackOver TooDeep = StopsAt LinkTooDeep (answer_over digest bits gives (undone cs) root)
  IsLackOver NotTree =
      ¬ IsWithin (most_of digest bits gives (undone cs) root) (at_top (answer_over digest bits gives (undone cs) root))
  IsLackOver (OtherValue place) = Tells (Err (HasOtherValue place))
  IsLackOver OtherRoot = ⊥
  IsLackOver NoMemory = ⊤

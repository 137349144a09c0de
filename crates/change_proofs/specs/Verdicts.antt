-- What is answered of changes, over any source and over given blocks.
use Rattle.std.specs.Prelude.{◌≡◌, ⊤, Contains, ℕ, List, Option, Some, None, Result, Ok, Err, IfErr, IsSome, OnOk}
use Rattle.std.specs.Str.{bytes_eq}
use Rattle.std.specs.declared.sync.Arc.{Arc}
use Rattle.spec.specs.Reading.{◌>>=◌, ensure}
use Rattle.spec.specs.Layer.{layer}
use Rattle.spec.specs.Tree.{Pair}
use Rattle.spec.specs.Blocks.{ArePairs, ClashesWithNone, IsClashFree, nodes, root as root_of}
use Rattle.lookups.specs.Steps.{nodes_given}
use Rattle.batch_laws.specs.Links.{Step, Top}
use Rattle.edit.specs.Batches.{most_of, answer_of as answer_over}
use Rattle.edit.specs.declared.outcome.EditFault.{EditFault}
use Rattle.edit.specs.declared.outcome.EditFault.TheVariants as edits
use Rattle.change_laws.specs.Told.{KeyChange, undone, DifferBy}
use Rattle.change_laws.specs.Given.{ChangeFault as GivenFault, BlockMissing as HasBlockMissing, BadNode as HasBadNode, TooDeep as HasTooDeep, NotTree as HasNotTree, OtherValue as HasOtherValue, OtherRoot as HasOtherRoot, given_at, or_fault}
use Rattle.change_laws.specs.Verdict.{previous_of, are_told, change_verdict}
use Rattle.change_laws.specs.Laws.{change_path, node_cids, IsShown}
use Rattle.change_proofs.specs.declared.change_fault.ChangeFault.{ChangeFault}
use Rattle.change_proofs.specs.declared.change_fault.ChangeFault.TheVariants.{BlockMissing, BadNode, TooDeep, NotTree, OtherValue, OtherRoot, NoMemory}

-- what a fault of a preview is to who verifies; it never says that there is no such key, or that two blocks clash
abbrev pub of_preview : {D A : Type 0} → EditFault D A → ChangeFault
of_preview (edits.Missing c) = BlockMissing c
of_preview (edits.BadNode c) = BadNode c
of_preview edits.TooDeep = TooDeep
of_preview edits.NotTree = NotTree
of_preview edits.NoSuchKey = NotTree
of_preview (edits.Clash pair) = NotTree
of_preview edits.NoMemory = NoMemory

-- ---- the values that are told

-- the values that the keys of changes have in the tree with this root, as the batch that undoes them meets them
abbrev pub values_met : {A : Type 0} → (List ℕ → List ℕ) → ℕ → (List ℕ → Option (Arc (List ℕ) A)) → List ℕ
    → List KeyChange → List (Option (List ℕ))
values_met digest bits gives root cs =
    let shows = nodes_given gives in
    previous_of shows (layer digest bits) (undone cs) (shows root)

-- none of them is another one, or the first that is stands at this place
abbrev pub told_of : Option ℕ → Result (Unit {0}) GivenFault
told_of None = Ok tt
told_of (Some place) = Err (HasOtherValue place)

-- what follows of the values and of the root that the changes undone lead to
abbrev pub judgement : Result (Unit {0}) GivenFault → List ℕ → List ℕ → Result (Unit {0}) GivenFault
judgement told old before = told >>= (λ x. ensure (bytes_eq old before) HasOtherRoot)

abbrev pub IsJudged : Result (Unit {0}) GivenFault → Result (Unit {0}) ChangeFault → Type 0
IsJudged verdict (Ok x) = verdict ≡ Ok tt
IsJudged verdict (Err (BlockMissing c)) = ⊥
IsJudged verdict (Err (BadNode c)) = ⊥
IsJudged verdict (Err TooDeep) = ⊥
IsJudged verdict (Err NotTree) = ⊥
IsJudged verdict (Err (OtherValue place)) = verdict ≡ Err (HasOtherValue place)
IsJudged verdict (Err OtherRoot) = verdict ≡ Err HasOtherRoot
IsJudged verdict (Err NoMemory) = ⊥

-- ---- over any source

-- what a batch comes to, within this many reads and where the changed keys have these values
abbrev pub verdict_of : {X : Type 0} → (List ℕ → Option X) → ℕ → Step Top → List (Option (List ℕ)) → List KeyChange → List ℕ
    → Result (Unit {0}) GivenFault
verdict_of gives most answer vs cs before =
    or_fault gives most answer >>= (λ old. judgement (are_told 0 vs cs) old.0.0 before)

-- the verdict of changes over a source
abbrev pub verdict_over : {A : Type 0} → (List ℕ → List ℕ) → ℕ → (List ℕ → Option (Arc (List ℕ) A)) → List ℕ → List ℕ
    → List KeyChange → Result (Unit {0}) GivenFault
verdict_over digest bits gives before after cs =
    verdict_of gives (most_of digest bits gives (undone cs) after) (answer_over digest bits gives (undone cs) after)
    (values_met digest bits gives after cs) cs before

-- ---- what is answered

-- A fault is the verdict's, but for want of memory; and a block that it names is not given, or given and no node.
abbrev pub IsFault : {X : Type 0} → (List ℕ → Option X) → Result (Unit {0}) GivenFault → ChangeFault → Type 0
IsFault gives verdict (BlockMissing c) = (gives c ≡ None) × (verdict ≡ Err (HasBlockMissing c))
IsFault gives verdict (BadNode c) = IsSome (gives c) × (verdict ≡ Err (HasBadNode c))
IsFault gives verdict TooDeep = verdict ≡ Err HasTooDeep
IsFault gives verdict NotTree = verdict ≡ Err HasNotTree
IsFault gives verdict (OtherValue place) = verdict ≡ Err (HasOtherValue place)
IsFault gives verdict OtherRoot = verdict ≡ Err HasOtherRoot
IsFault gives verdict NoMemory = ⊤

abbrev pub IsSaid : {X : Type 0} → (List ℕ → Option X) → Result (Unit {0}) GivenFault → Result (Unit {0}) ChangeFault → Type 0
IsSaid gives verdict (Ok x) = verdict ≡ Ok tt
IsSaid gives verdict (Err fault) = IsFault gives verdict fault

abbrev pub IsSaidOver : {A : Type 0} → (List ℕ → List ℕ) → ℕ → (List ℕ → Option (Arc (List ℕ) A)) → List ℕ → List ℕ
    → List KeyChange → Result (Unit {0}) ChangeFault → Type 0
IsSaidOver digest bits gives before after cs result = IsSaid gives (verdict_over digest bits gives before after cs) result

-- memory is wanted
abbrev pub IsWant : ChangeFault → Type 0
IsWant (BlockMissing c) = ⊥
IsWant (BadNode c) = ⊥
IsWant TooDeep = ⊥
IsWant NotTree = ⊥
IsWant (OtherValue place) = ⊥
IsWant OtherRoot = ⊥
IsWant NoMemory = ⊤

-- it is not that a block is no node, a link too deep, or that there is no tree; a block that is missing has one of these CIDs
abbrev pub IsOfATree : List (List ℕ) → ChangeFault → Type 0
IsOfATree cids (BlockMissing c) = Contains cids c
IsOfATree cids (BadNode c) = ⊥
IsOfATree cids TooDeep = ⊥
IsOfATree cids NotTree = ⊥
IsOfATree cids (OtherValue place) = ⊤
IsOfATree cids OtherRoot = ⊤
IsOfATree cids NoMemory = ⊤

-- ---- over given blocks

module _ (digest : List ℕ → List ℕ) (bits : ℕ) (before after : List ℕ) (given : List (List ℕ)) (cs : List KeyChange)
    (result : Result (Unit {0}) ChangeFault) where
  -- what is answered is the verdict, but for want of memory
  abbrev pub IsVerdict : Type 0
  IsVerdict = IsSaid (given_at digest given) (change_verdict digest bits before after given cs) result

  -- changes that are shown are true of whatever pairs have the root after
  abbrev pub IsRight : Type 0
  IsRight = (new : List Pair) → ArePairs new → after ≡ root_of digest bits new
      → ClashesWithNone digest (nodes digest bits new) given → OnOk result (IsShown digest bits before cs new)

  -- where all or some blocks of a tree are given, nothing is said against a block, and one that is missing is a node of the tree
  abbrev pub IsOfTree : Type 0
  IsOfTree = (new : List Pair) → ArePairs new → after ≡ root_of digest bits new → IsClashFree digest (nodes digest bits new)
      → ClashesWithNone digest (nodes digest bits new) given → IfErr result (IsOfATree (node_cids digest bits new))

  -- and true ones are shown where the nodes are given that undoing reads
  abbrev pub IsWhole : Type 0
  IsWhole = (old new : List Pair) → ArePairs old → ArePairs new → before ≡ root_of digest bits old
      → after ≡ root_of digest bits new → ClashesWithNone digest (nodes digest bits new) given → DifferBy cs old new
      → ((b : List ℕ) → Contains (change_path digest bits cs new) b → Contains given b) → IfErr result IsWant

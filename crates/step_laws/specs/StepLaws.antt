-- The laws of a step.
use Rattle.std.specs.Prelude.{◌≡◌, Contains, ℕ, suc, max, List, map, None, Result, Ok, Err}
use Rattle.spec.specs.Cid.{IsDigest}
use Rattle.spec.specs.Layer.{layer as layer_of_key}
use Rattle.spec.specs.Tree.{Pair, top, top_layer}
use Rattle.spec.specs.NodeFormat.{node_bytes}
use Rattle.spec.specs.Blocks.{ArePairs, ClashesWithNone, IsClashFree, nodes, root}
use Rattle.batch_laws.specs.Batch.{changed, AreKeyed}
use Rattle.batch_laws.specs.Counts.{put_layers}
use Rattle.batch_laws.specs.Previous.{values}
use Rattle.batch_laws.specs.Trace.{batch_read}
use Rattle.change_laws.specs.Told.{KeyChange, DifferBy}
use Rattle.change_laws.specs.Given.{ChangeFault, BlockMissing, BadNode, TooDeep, NotTree, OtherValue, OtherRoot, given_at}
use Rattle.change_laws.specs.Verdict.{are_told}
use Rattle.change_laws.specs.Laws.{node_cids, IsOfTree}
use Rattle.step_laws.specs.Turned.{turned, done}
use Rattle.step_laws.specs.Step.{step_verdict}

-- ---- what a verdict says

-- the root after is that of the pairs with each change done, and each key had and has what is told
pub record IsDone (digest : List ℕ → List ℕ) (bits : ℕ) (after : List ℕ) (cs : List KeyChange) (old : List Pair)
    : Type 0 where
  pub root_is : after ≡ root digest bits (changed (done cs) old)
  pub differ : DifferBy cs old (changed (done cs) old)

-- Where the root before is that of some pairs, and no node of their tree clashes with a given block, a step that is shown is true
-- of them. The nodes may clash among themselves, and so may the given blocks.
abbrev pub StepIsTrue : Type 0
StepIsTrue = (digest : List ℕ → List ℕ) (bits : ℕ) → IsDigest digest → (after : List ℕ) (old : List Pair) → ArePairs old
    → (given : List (List ℕ)) → ClashesWithNone digest (nodes digest bits old) given
    → (cs : List KeyChange) → AreKeyed (done cs)
    → step_verdict digest bits (root digest bits old) after given cs ≡ Ok tt → IsDone digest bits after cs old

-- the nodes that doing changes reads, from the top
abbrev pub step_path : (List ℕ → List ℕ) → ℕ → List KeyChange → List Pair → List (List ℕ)
step_path digest bits cs old =
    let layer = layer_of_key digest bits in
    let n = max (suc (top_layer layer old)) (put_layers layer (done cs)) in
    map (node_bytes digest) (batch_read layer n (done cs) (top layer old))

-- where they are given, a true step is shown
abbrev pub StepIsComplete : Type 0
StepIsComplete = (digest : List ℕ → List ℕ) (bits : ℕ) → IsDigest digest → (old new : List Pair) → ArePairs old
    → ArePairs new → (given : List (List ℕ)) → ClashesWithNone digest (nodes digest bits old) given
    → (cs : List KeyChange) → AreKeyed (done cs) → DifferBy cs old new
    → ((b : List ℕ) → Contains (step_path digest bits cs old) b → Contains given b)
    → step_verdict digest bits (root digest bits old) (root digest bits new) given cs ≡ Ok tt

-- ---- faults

-- the keys had in these pairs the values that are told before the changes, or the first that hadn't stands at a place
abbrev pub told_before : List Pair → List KeyChange → Result (Unit {0}) ChangeFault
told_before old cs = are_told 0 (values (done cs) old) (turned cs)

-- What is said of values and of the root is so of the pairs before: this is the first key that had another value, or each had its
-- own, and the root after is another one than that of the pairs with each change done.
abbrev pub IsSoBefore : (List ℕ → List ℕ) → ℕ → List ℕ → List KeyChange → List Pair → ChangeFault → Type 0
IsSoBefore digest bits after cs old (BlockMissing c) = Unit {0}
IsSoBefore digest bits after cs old (BadNode c) = Unit {0}
IsSoBefore digest bits after cs old TooDeep = Unit {0}
IsSoBefore digest bits after cs old NotTree = Unit {0}
IsSoBefore digest bits after cs old (OtherValue place) = told_before old cs ≡ Err (OtherValue place)
IsSoBefore digest bits after cs old OtherRoot =
    (told_before old cs ≡ Ok tt) × (after ≡ root digest bits (changed (done cs) old) → ⊥)

abbrev pub StepFaultsAreSo : Type 0
StepFaultsAreSo = (digest : List ℕ → List ℕ) (bits : ℕ) → IsDigest digest → (after : List ℕ) (old : List Pair)
    → ArePairs old → (given : List (List ℕ)) → ClashesWithNone digest (nodes digest bits old) given
    → (cs : List KeyChange) → AreKeyed (done cs) → (fault : ChangeFault)
    → step_verdict digest bits (root digest bits old) after given cs ≡ Err fault → IsSoBefore digest bits after cs old fault

-- Over blocks of the tree before no block is called bad, no link too deep, and the blocks are not called no tree; what is called
-- missing is a node of that tree,
abbrev pub StepOnlyMissing : Type 0
StepOnlyMissing = (digest : List ℕ → List ℕ) (bits : ℕ) → IsDigest digest → (es : List Pair) → ArePairs es
    → IsClashFree digest (nodes digest bits es) → (given : List (List ℕ)) → ClashesWithNone digest (nodes digest bits es) given
    → (after : List ℕ) (cs : List KeyChange) → AreKeyed (done cs) → (fault : ChangeFault)
    → step_verdict digest bits (root digest bits es) after given cs ≡ Err fault → IsOfTree (node_cids digest bits es) fault

-- and isn't given: so who asks for it and gives it gets on
abbrev pub StepMissingIsMissing : Type 0
StepMissingIsMissing = (digest : List ℕ → List ℕ) (bits : ℕ) (before after : List ℕ) (given : List (List ℕ))
    (cs : List KeyChange) (c : List ℕ)
    → step_verdict digest bits before after given cs ≡ Err (BlockMissing c) → given_at digest given c ≡ None

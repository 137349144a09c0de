-- The laws of a proof of changes.
use Rattle.std.specs.Prelude.{◌≡◌, ◌↔◌, ⊤, Contains, ◌<◌, ◌^◌, ℕ, suc, max, List, [], length, map, Option, None, Ok, Err, IfErr}
use Rattle.spec.specs.Cid.{cid, IsDigest}
use Rattle.spec.specs.Layer.{layer as layer_of_key}
use Rattle.spec.specs.Tree.{Pair, top, top_layer}
use Rattle.spec.specs.NodeFormat.{node_bytes}
use Rattle.spec.specs.Blocks.{ArePairs, ClashesWithNone, IsClashFree, nodes, root}
use Rattle.edit_laws.specs.Sources.{shown_by}
use Rattle.batch_laws.specs.Batch.{Change, changed, AreKeyed, HaveOwnCids}
use Rattle.batch_laws.specs.Trace.{batch_read}
use Rattle.batch_laws.specs.Previous.{values}
use Rattle.batch_laws.specs.Counts.{most_from, put_layers}
use Rattle.batch_laws.specs.Links.{LinkTooDeep, NotShown, Step, Stop, StopsAt, Top}
use Rattle.batch_laws.specs.Within.{IsWithin, at_top}
use Rattle.change_laws.specs.Told.{KeyChange, undone, DifferBy}
use Rattle.change_laws.specs.Given.{ChangeFault, BlockMissing, BadNode, TooDeep, NotTree, OtherValue, OtherRoot, given_at, batch_over}
use Rattle.change_laws.specs.Verdict.{are_told, change_verdict}

-- ---- what a verdict says

-- the pairs with each change undone are those that the root before names
pub record IsShown (digest : List ℕ → List ℕ) (bits : ℕ) (before : List ℕ) (cs : List KeyChange) (new : List Pair)
    : Type 0 where
  pub root_is : before ≡ root digest bits (changed (undone cs) new)
  pub differ : DifferBy cs (changed (undone cs) new) new

-- Where no node of the new tree clashes with a given block, changes that are shown are true of its pairs. The nodes may clash
-- among themselves, and so may the given blocks.
abbrev pub VerdictIsSound : Type 0
VerdictIsSound = (digest : List ℕ → List ℕ) (bits : ℕ) → IsDigest digest → (before : List ℕ) (new : List Pair)
    → ArePairs new → (given : List (List ℕ)) → ClashesWithNone digest (nodes digest bits new) given
    → (cs : List KeyChange) → AreKeyed (undone cs)
    → change_verdict digest bits before (root digest bits new) given cs ≡ Ok tt → IsShown digest bits before cs new

-- And where no node of the tree before clashes with one of the tree that undoing leads to, the pairs before are just these.
abbrev pub OldIsUndone : Type 0
OldIsUndone = (digest : List ℕ → List ℕ) (bits : ℕ) → IsDigest digest → (old new : List Pair) → ArePairs old → ArePairs new
    → (cs : List KeyChange) → AreKeyed (undone cs) → HaveOwnCids (undone cs)
    → length (changed (undone cs) new) < 2 ^ 64
    → ClashesWithNone digest (nodes digest bits old) (nodes digest bits (changed (undone cs) new))
    → IsShown digest bits (root digest bits old) cs new
    → (old ≡ changed (undone cs) new) × DifferBy cs old new

-- the nodes that undoing changes reads, from the top
abbrev pub change_path : (List ℕ → List ℕ) → ℕ → List KeyChange → List Pair → List (List ℕ)
change_path digest bits cs new =
    let layer = layer_of_key digest bits in
    let n = max (suc (top_layer layer new)) (put_layers layer (undone cs)) in
    map (node_bytes digest) (batch_read layer n (undone cs) (top layer new))

-- where they are given, changes that are true are shown
abbrev pub VerdictIsComplete : Type 0
VerdictIsComplete = (digest : List ℕ → List ℕ) (bits : ℕ) → IsDigest digest → (old new : List Pair) → ArePairs old
    → ArePairs new → (given : List (List ℕ)) → ClashesWithNone digest (nodes digest bits new) given
    → (cs : List KeyChange) → AreKeyed (undone cs) → DifferBy cs old new
    → ((b : List ℕ) → Contains (change_path digest bits cs new) b → Contains given b)
    → change_verdict digest bits (root digest bits old) (root digest bits new) given cs ≡ Ok tt

-- ---- where some of a tree's blocks are given

-- the CIDs of the nodes of a tree
abbrev pub node_cids : (List ℕ → List ℕ) → ℕ → List Pair → List (List ℕ)
node_cids digest bits es = map (cid digest) (nodes digest bits es)

-- it stops as a block with one of these CIDs isn't given
abbrev pub IsLack : List (List ℕ) → (List ℕ → Option (List ℕ)) → Stop → Type 0
IsLack cids gives (NotShown c) = (gives c ≡ None) × Contains cids c
IsLack cids gives LinkTooDeep = ⊥

-- a batch keeps within what a tree has for it, and stops only for that
abbrev pub OnlyLacks : List (List ℕ) → (List ℕ → Option (List ℕ)) → ℕ → Step Top → Type 0
OnlyLacks cids gives most step = IsWithin most (at_top step) × IfErr step (λ e. IsLack cids gives e.why)

-- nothing else stops a batch where no two nodes of the tree clash, and none with a given block
abbrev pub TreeOnlyLacks : Type 0
TreeOnlyLacks = (digest : List ℕ → List ℕ) (bits : ℕ) → IsDigest digest → (es : List Pair) → ArePairs es
    → IsClashFree digest (nodes digest bits es) → (given : List (List ℕ)) → ClashesWithNone digest (nodes digest bits es) given
    → (cs : List Change) → AreKeyed cs
    → let gives = given_at digest given in
    OnlyLacks (node_cids digest bits es) gives (most_from (layer_of_key digest bits) cs (shown_by gives (root digest bits es)))
    (batch_over digest bits gives cs (root digest bits es))

-- what is said there of blocks: one of the tree's nodes, which have these CIDs, is missing; or it is another value or another root
abbrev pub IsOfTree : List (List ℕ) → ChangeFault → Type 0
IsOfTree cids (BlockMissing c) = Contains cids c
IsOfTree cids (BadNode c) = ⊥
IsOfTree cids TooDeep = ⊥
IsOfTree cids NotTree = ⊥
IsOfTree cids (OtherValue place) = ⊤
IsOfTree cids OtherRoot = ⊤

-- So no block is called bad there, no link too deep, and the blocks are not called no tree. What is called missing is a node of
-- the tree, so that who asks for it and gives it gets on.
abbrev pub TreeOnlyMissing : Type 0
TreeOnlyMissing = (digest : List ℕ → List ℕ) (bits : ℕ) → IsDigest digest → (es : List Pair) → ArePairs es
    → IsClashFree digest (nodes digest bits es) → (given : List (List ℕ)) → ClashesWithNone digest (nodes digest bits es) given
    → (before : List ℕ) (cs : List KeyChange) → AreKeyed (undone cs) → (fault : ChangeFault)
    → change_verdict digest bits before (root digest bits es) given cs ≡ Err fault → IsOfTree (node_cids digest bits es) fault

-- ---- faults

-- What is said of values and of the root is so of whatever pairs have the root after: this is the first key with another value, or
-- each has its own, and the root before is another one than that of the pairs with each change undone.
abbrev pub IsSo : (List ℕ → List ℕ) → ℕ → List ℕ → List KeyChange → List Pair → ChangeFault → Type 0
IsSo digest bits before cs new (BlockMissing c) = Unit {0}
IsSo digest bits before cs new (BadNode c) = Unit {0}
IsSo digest bits before cs new TooDeep = Unit {0}
IsSo digest bits before cs new NotTree = Unit {0}
IsSo digest bits before cs new (OtherValue place) = are_told 0 (values (undone cs) new) cs ≡ Err (OtherValue place)
IsSo digest bits before cs new OtherRoot = (are_told 0 (values (undone cs) new) cs ≡ Ok tt)
    × (before ≡ root digest bits (changed (undone cs) new) → ⊥)

abbrev pub FaultsAreSo : Type 0
FaultsAreSo = (digest : List ℕ → List ℕ) (bits : ℕ) → IsDigest digest → (before : List ℕ) (new : List Pair)
    → ArePairs new → (given : List (List ℕ)) → ClashesWithNone digest (nodes digest bits new) given
    → (cs : List KeyChange) → AreKeyed (undone cs) → (fault : ChangeFault)
    → change_verdict digest bits before (root digest bits new) given cs ≡ Err fault → IsSo digest bits before cs new fault

-- where nothing is given, the root after is what is missing first
abbrev pub NothingGiven : Type 0
NothingGiven = (digest : List ℕ → List ℕ) (bits : ℕ) (before after : List ℕ) (cs : List KeyChange)
    → change_verdict digest bits before after [] cs ≡ Err (BlockMissing after)

-- what a batch finds not shown isn't shown: so a bad node is a given block that is no node
abbrev pub NotShownIsTrue : Type 0
NotShownIsTrue = (digest : List ℕ → List ℕ) (bits : ℕ) (gives : List ℕ → Option (List ℕ)) (cs : List Change)
    (root c : List ℕ) → StopsAt (NotShown c) (batch_over digest bits gives cs root) → shown_by gives c ≡ None

-- what is missing isn't given
abbrev pub MissingIsMissing : Type 0
MissingIsMissing = (digest : List ℕ → List ℕ) (bits : ℕ) (before after : List ℕ) (given : List (List ℕ))
    (cs : List KeyChange) (c : List ℕ)
    → change_verdict digest bits before after given cs ≡ Err (BlockMissing c) → given_at digest given c ≡ None

-- given blocks are called no tree just where the batch is not within what a tree has for it
abbrev pub NotTreeIsBeyond : Type 0
NotTreeIsBeyond = (digest : List ℕ → List ℕ) (bits : ℕ) (before after : List ℕ) (given : List (List ℕ))
    (cs : List KeyChange) → let gives = given_at digest given in
    let most = most_from (layer_of_key digest bits) (undone cs) (shown_by gives after) in
    (change_verdict digest bits before after given cs ≡ Err NotTree)
    ↔ (¬ IsWithin most (at_top (batch_over digest bits gives (undone cs) after)))

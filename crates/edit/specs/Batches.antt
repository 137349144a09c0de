-- What a batch answers, over the pairs of the tree and over any source.
use Rattle.std.specs.Prelude.{◌≡◌, ◌≤◌, ◌+◌, ◌-◌, ◌*◌, ⊤, ℕ, suc, max, List, ◌++◌, map, length, Option, None, Ok, IsOk, Result, IfOk, IfErr, IsSome}
use Rattle.std.specs.Arc.{arc_value}
use Rattle.std.specs.declared.sync.Arc.{Arc}
use Rattle.spec.specs.Tree.{Pair, top, top_layer}
use Rattle.spec.specs.Layer.{layer as layer_of_key}
use Rattle.spec.specs.NodeFormat.{Shape, node_bytes}
use Rattle.spec.specs.Blocks.{IsClashFree, nodes, root as root_of}
use Rattle.edit_laws.specs.Changes.{AreChanges, add_of, drop_of}
use Rattle.edit_laws.specs.Laws.Edits.{bytes_of}
use Rattle.lookups.specs.Steps.{nodes_given}
use Rattle.lookups.specs.Trees.{OfTree}
use Rattle.batch_laws.specs.Batch.{Change, changed}
use Rattle.batch_laws.specs.Links.{LinkTooDeep, Log, NotShown, Step, StopsAt, Top, batch_from}
use Rattle.batch_laws.specs.Previous.{values}
use Rattle.batch_laws.specs.Trace.{batch_read}
use Rattle.batch_laws.specs.Within.{IsWithin, at_top}
use Rattle.batch_laws.specs.Counts.{most_from, put_layers, layers_needed}
use Rattle.edit.specs.Refusals.{IsRefusal}
use Rattle.edit.specs.declared.outcome.Fault.{Fault}
use Rattle.edit.specs.declared.outcome.Fault.TheVariants as walks
use Rattle.edit.specs.declared.outcome.BatchEdit.{BatchEdit}
use Rattle.edit.specs.declared.outcome.EditFault.{EditFault}
use Rattle.edit.specs.declared.outcome.EditFault.TheVariants.{Missing, BadNode, TooDeep, NotTree, NoSuchKey, Clash, NoMemory}

-- how many layers the old tree or the new one has
abbrev pub layers_of : (List ℕ → List ℕ) → ℕ → List Change → List Pair → ℕ
layers_of digest bits cs es =
    let layer = layer_of_key digest bits in max (suc (top_layer layer es)) (put_layers layer cs)

-- ---- over the pairs of a tree

-- the nodes that a batch reads, as bytes
abbrev pub nodes_read : (List ℕ → List ℕ) → ℕ → List Change → List Pair → List (List ℕ)
nodes_read digest bits cs es =
    let layer = layer_of_key digest bits in
    map (node_bytes digest) (batch_read layer (layers_of digest bits cs es) cs (top layer es))

-- The tree of es is changed: the new root, the blocks that come, the CIDs of those that go, and the value that the key of
-- each change had.
pub record IsBatchOf (digest : List ℕ → List ℕ) (bits : ℕ) (cs : List Change) (es : List Pair) (root : List ℕ)
    (add drop : List (List ℕ)) (previous : List (Option (List ℕ))) : Type 0 where
  pub root_is : root ≡ root_of digest bits (changed cs es)
  pub previous_is : previous ≡ values cs es
  pub changes : AreChanges digest (nodes digest bits es) (nodes digest bits (changed cs es)) (nodes_read digest bits cs es)
      add drop
  -- no block that comes clashes with another one or with one that was read
  pub clash_free : IsClashFree digest (add ++ nodes_read digest bits cs es)
  -- two nodes a layer for each change, and one a layer more where the tree rises
  pub count : let t = top_layer (layer_of_key digest bits) es in
      let n = layers_of digest bits cs es in
      length add ≤ (n - t) + length cs * (n + t)

-- what a fault of the walk is to the caller
abbrev pub of_walk : {D A : Type 0} → Fault → EditFault D A
of_walk (walks.Missing c) = Missing c
of_walk (walks.BadNode c) = BadNode c
of_walk walks.TooDeep = TooDeep
of_walk walks.NotTree = NotTree
of_walk walks.NoMemory = NoMemory

-- the edit is that of the tree with this root, for whatever pairs it has in a source
abbrev pub IsBatch : {D A : Type 0} → (List ℕ → List ℕ) → ℕ → (List ℕ → Option (Arc (List ℕ) A)) → List ℕ
    → List Change → Result (BatchEdit D A) (EditFault D A) → Type 0
IsBatch digest bits gives root cs result = OfTree digest bits gives root (λ es. IfOk result (λ edit.
    IsBatchOf digest bits cs es edit.root (map arc_value edit.add.items) edit.drop.items edit.previous.items))

-- and it has the nodes that its changes read, each once, in the order in which they are read
abbrev pub HasNodes : {D A : Type 0} → (List ℕ → List ℕ) → ℕ → (List ℕ → Option (Arc (List ℕ) A)) → List ℕ
    → List Change → Result (BatchEdit D A) (EditFault D A) → Type 0
HasNodes digest bits gives root cs result = OfTree digest bits gives root (λ es. IfOk result (λ edit.
    map arc_value edit.read.items ≡ nodes_read digest bits cs es))

-- it is refused as nodes of the tree before and after clash, or memory was wanted
abbrev pub IsBatchRefusal : {D A : Type 0} → (List ℕ → List ℕ) → ℕ → (List ℕ → Option (Arc (List ℕ) A)) → List ℕ
    → List Change → Result (BatchEdit D A) (EditFault D A) → Type 0
IsBatchRefusal digest bits gives root cs result = OfTree digest bits gives root (λ es.
    IfErr result (IsRefusal digest (nodes digest bits es ++ nodes digest bits (changed cs es)) ⊥))

-- ---- over any source

-- the edit is this answer's
pub record IsAnswer (digest : List ℕ → List ℕ) (answer : Step Top) (root : List ℕ) (add drop : List (List ℕ))
    : Type 0 where
  pub left : List Shape
  pub log : Log
  pub is : answer ≡ Ok ((root, left), log)
  pub added : add ≡ add_of digest (bytes_of (log.read ++ left)) (bytes_of log.made)
  pub dropped : drop ≡ drop_of digest (bytes_of log.made) (bytes_of log.read)
  pub free : IsClashFree digest (bytes_of (log.read ++ left)) → IsClashFree digest (add ++ bytes_of (log.read ++ left))
  pub all_free : IsClashFree digest (bytes_of (log.read ++ left))
      → IsClashFree digest (bytes_of log.made ++ bytes_of (log.read ++ left))

-- what a batch with these changes answers from a root, over a source of blocks
abbrev pub answer_of : {A : Type 0} → (List ℕ → List ℕ) → ℕ → (List ℕ → Option (Arc (List ℕ) A)) → List Change
    → List ℕ → Step Top
answer_of digest bits gives cs root =
    let layer = layer_of_key digest bits in
    let shows = nodes_given gives in
    batch_from digest shows layer (layers_needed layer (put_layers layer cs) (shows root)) cs root

-- the edit is what the batch answers, whatever the source has
abbrev pub IsAnswered : {D A : Type 0} → (List ℕ → List ℕ) → ℕ → (List ℕ → Option (Arc (List ℕ) A)) → List ℕ
    → List Change → Result (BatchEdit D A) (EditFault D A) → Type 0
IsAnswered digest bits gives root cs result = IfOk result (λ edit.
    IsAnswer digest (answer_of digest bits gives cs root) edit.root (map arc_value edit.add.items) edit.drop.items)

-- these are the nodes that an answer has read
pub record AreReadFor (answer : Step Top) (root : List ℕ) (read : List (List ℕ)) : Type 0 where
  pub left : List Shape
  pub log : Log
  pub is : answer ≡ Ok ((root, left), log)
  pub read_is : read ≡ bytes_of (log.read ++ left)

-- the edit has them
abbrev pub HasNodesOver : {D A : Type 0} → (List ℕ → List ℕ) → ℕ → (List ℕ → Option (Arc (List ℕ) A)) → List ℕ
    → List Change → Result (BatchEdit D A) (EditFault D A) → Type 0
HasNodesOver digest bits gives root cs result = IfOk result (λ edit.
    AreReadFor (answer_of digest bits gives cs root) edit.root (map arc_value edit.read.items))

-- and how many nodes may be read for it: the root, and as many as the changes read at most below a top of its layer
abbrev pub most_of : {A : Type 0} → (List ℕ → List ℕ) → ℕ → (List ℕ → Option (Arc (List ℕ) A)) → List Change
    → List ℕ → ℕ
most_of digest bits gives cs root = most_from (layer_of_key digest bits) cs (nodes_given gives root)

-- why there is none: the source lacks the block with this CID, or gives one that is no node, and there the batch stops; it stops
-- at a link below layer 0; as far as it comes, it reads more nodes than these, or keys don't ascend in a node that it makes; there
-- is no such key only where P holds; or there is an answer, and two of its blocks clash
abbrev pub IsReason : {D A : Type 0} → (List ℕ → Option (Arc (List ℕ) A)) → ℕ → Step Top → Type 0
    → EditFault D A → Type 0
IsReason gives most answer P (Missing c) = (gives c ≡ None) × StopsAt (NotShown c) answer
IsReason gives most answer P (BadNode c) = IsSome (gives c) × StopsAt (NotShown c) answer
IsReason gives most answer P TooDeep = StopsAt LinkTooDeep answer
IsReason gives most answer P NotTree = ¬ IsWithin most (at_top answer)
IsReason gives most answer P NoSuchKey = P
IsReason gives most answer P (Clash pair) = IsOk answer
IsReason gives most answer P NoMemory = ⊤

abbrev pub IsLack : {D A : Type 0} → (List ℕ → List ℕ) → ℕ → (List ℕ → Option (Arc (List ℕ) A)) → List ℕ
    → List Change → Result (BatchEdit D A) (EditFault D A) → Type 0
IsLack digest bits gives root cs result =
    IfErr result (IsReason gives (most_of digest bits gives cs root) (answer_of digest bits gives cs root) ⊥)

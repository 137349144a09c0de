-- A batch over given blocks: the batch over the source that they are, which says where it stops.
use Rattle.std.specs.Prelude.{ℕ, if◌then◌else◌, List, Option, Some, None, Result, Ok, Err}
use Rattle.spec.specs.Layer.{layer as layer_of_key}
use Rattle.spec.specs.Blocks.{block_at}
use Rattle.edit_laws.specs.Sources.{shown_by}
use Rattle.batch_laws.specs.Batch.{Change}
use Rattle.batch_laws.specs.Counts.{most_from, put_layers, layers_needed}
use Rattle.batch_laws.specs.Links.{Log, NotShown, LinkTooDeep, Step, Stop, Top, batch_from}
use Rattle.change_laws.specs.Within.{is_within}

-- why given blocks don't show a change: a node's block isn't given; a block is no node; a link stands below layer 0; as far as
-- undoing comes, more nodes are read than a tree with such a root has for it, or keys don't ascend in a node that is made; the
-- key of the change at a place has another value; the changes undone lead to another root
pub data ChangeFault : Type 0 where
  BlockMissing : List ℕ → ChangeFault
  BadNode : List ℕ → ChangeFault
  TooDeep : ChangeFault
  NotTree : ChangeFault
  OtherValue : ℕ → ChangeFault
  OtherRoot : ChangeFault

-- ---- the given blocks

-- the first of them with a CID
abbrev pub given_at : (List ℕ → List ℕ) → List (List ℕ) → List ℕ → Option (List ℕ)
given_at digest given c = block_at digest c given

-- ---- where it stops

-- no node with this CID is shown: no block with it is there, or that block is no node
abbrev pub unshown : {A : Type 0} → List ℕ → Option A → ChangeFault
unshown c None = BlockMissing c
unshown c (Some b) = BadNode c

abbrev pub stop_fault_of : {A : Type 0} → (List ℕ → Option A) → Stop → ChangeFault
stop_fault_of gives (NotShown c) = unshown c (gives c)
stop_fault_of gives LinkTooDeep = TooDeep

abbrev pub or_stop : {A : Type 0} → (List ℕ → Option A) → Step Top → Result (Top × Log) ChangeFault
or_stop gives (Ok x) = Ok x
or_stop gives (Err e) = Err (stop_fault_of gives e.why)

-- but where it is not within what a tree has, with so many nodes to read at most, the blocks are of no tree
abbrev pub or_fault : {A : Type 0} → (List ℕ → Option A) → ℕ → Step Top → Result (Top × Log) ChangeFault
or_fault gives most step = if is_within most step then or_stop gives step else Err NotTree

-- what these changes make of the tree with a root, as a source shows it, or where they stop
abbrev pub batch_over : (List ℕ → List ℕ) → ℕ → (List ℕ → Option (List ℕ)) → List Change → List ℕ → Step Top
batch_over digest bits gives cs root =
    let layer = layer_of_key digest bits in
    batch_from digest (shown_by gives) layer (layers_needed layer (put_layers layer cs) (shown_by gives root)) cs root

-- and over given blocks, or why there is none
abbrev pub batch_given : (List ℕ → List ℕ) → ℕ → List (List ℕ) → List Change → List ℕ
    → Result (Top × Log) ChangeFault
batch_given digest bits given cs root =
    let gives = given_at digest given in
    let most = most_from (layer_of_key digest bits) cs (shown_by gives root) in
    or_fault gives most (batch_over digest bits gives cs root)

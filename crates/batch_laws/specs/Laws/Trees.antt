-- The laws of a tree that is changed by a batch, and of its blocks.
use Rattle.std.specs.Prelude.{◌≡◌, ◌<◌, ◌≤◌, ◌+◌, ℕ, List, ◌++◌, map, Contains}
use Rattle.spec.specs.Cid.{IsDigest}
use Rattle.spec.specs.Layer.{layer as layer_of_key}
use Rattle.spec.specs.Tree.{Pair, Node, Sub, top, top_layer}
use Rattle.spec.specs.NodeFormat.{node_bytes}
use Rattle.spec.specs.Blocks.{ArePairs, IsClashFree, nodes}
use Rattle.edit_laws.specs.Pairs.{Ascending}
use Rattle.edit_laws.specs.TreeEdit.{layer_of}
use Rattle.edit_laws.specs.Trace.{weight, total}
use Rattle.edit_laws.specs.Changes.{AreChanges, add_of, drop_of}
use Rattle.batch_laws.specs.Batch.{Change, puts, changed}
use Rattle.batch_laws.specs.Walking.{batch_top}
use Rattle.batch_laws.specs.Trace.{batch_gone, batch_made, batch_read}

-- a tree changed by a batch is the tree of the changed pairs, whatever number of layers the edge has, if it is enough
abbrev pub BatchIsTop : Type 0
BatchIsTop = (layer : List ℕ → ℕ) (n : ℕ) (cs : List Change) (es : List Pair) → Ascending es
    → top_layer layer es < n → top_layer layer (puts cs) < n
    → batch_top layer n cs (top layer es) ≡ top layer (changed cs es)

-- the layer of a top is the greatest of a key
abbrev pub TopIsGreatest : Type 0
TopIsGreatest = (layer : List ℕ → ℕ) (es : List Pair) → layer_of layer (top layer es) ≡ top_layer layer es

-- over any number given to each node, as 1 for a node with a CID: what is made and what goes balance, and what is read is
-- of the old tree, each node once
pub record IsBalanced (layer : List ℕ → ℕ) (n : ℕ) (cs : List Change) (m : Node) (w : Node → ℕ) : Type 0 where
  pub even : weight w (Sub m) + total w (batch_made layer n cs m)
      ≡ weight w (Sub (batch_top layer n cs m)) + total w (batch_gone layer n cs m)
  pub read_once : total w (batch_read layer n cs m) ≤ weight w (Sub m)
  pub gone_read : total w (batch_gone layer n cs m) ≤ total w (batch_read layer n cs m)

abbrev pub BatchBalances : Type 0
BatchBalances = (layer : List ℕ → ℕ) (n : ℕ) (cs : List Change) (m : Node) (w : Node → ℕ)
    → IsBalanced layer n cs m w

-- the blocks of some nodes
abbrev pub bytes_of : (List ℕ → List ℕ) → List Node → List (List ℕ)
bytes_of digest ms = map (node_bytes digest) ms

-- what a batch adds and drops makes the blocks of the new tree of those of the old one
pub record IsBatch (digest : List ℕ → List ℕ) (bits n : ℕ) (cs : List Change) (es : List Pair) : Type 0 where
  pub read_old : let layer = layer_of_key digest bits in (b : List ℕ)
      → Contains (bytes_of digest (batch_read layer n cs (top layer es))) b → Contains (nodes digest bits es) b
  pub made_new : let layer = layer_of_key digest bits in (b : List ℕ)
      → Contains (bytes_of digest (batch_made layer n cs (top layer es))) b
      → Contains (nodes digest bits (changed cs es)) b
  -- where no two of the nodes made and read clash
  pub changes : let layer = layer_of_key digest bits in let m = top layer es in
      let read = bytes_of digest (batch_read layer n cs m) in
      let gone = bytes_of digest (batch_gone layer n cs m) in
      let made = bytes_of digest (batch_made layer n cs m) in
      IsClashFree digest (made ++ read)
      → AreChanges digest (nodes digest bits es) (nodes digest bits (changed cs es)) read
      (add_of digest read made) (drop_of digest made gone)

abbrev pub BatchChangesBlocks : Type 0
BatchChangesBlocks = (digest : List ℕ → List ℕ) (bits n : ℕ) (cs : List Change) (es : List Pair) → IsDigest digest
    → ArePairs es → IsClashFree digest (nodes digest bits es)
    → top_layer (layer_of_key digest bits) es < n → top_layer (layer_of_key digest bits) (puts cs) < n
    → IsBatch digest bits n cs es

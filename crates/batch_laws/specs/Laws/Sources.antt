-- The laws of a batch over a source that has the nodes of a tree.
use Rattle.std.specs.Prelude.{◌≡◌, ◌<◌, ℕ, List, ◌++◌, map, Option, Ok}
use Rattle.spec.specs.Cid.{IsDigest}
use Rattle.spec.specs.Layer.{layer as layer_of_key}
use Rattle.spec.specs.Tree.{Pair, top, top_layer}
use Rattle.spec.specs.NodeFormat.{Shape, shape}
use Rattle.spec.specs.Blocks.{ArePairs, root}
use Rattle.spec.specs.Sources.{HasNodes}
use Rattle.edit_laws.specs.Sources.{shown_by}
use Rattle.edit_laws.specs.Laws.Edits.{IsEdit}
use Rattle.batch_laws.specs.Batch.{Change, puts, changed, AreAscending}
use Rattle.batch_laws.specs.Trace.{batch_made, batch_read}
use Rattle.batch_laws.specs.Links.{Log, batch_from}
use Rattle.batch_laws.specs.Previous.{values, previous_top}

-- from the root, over a source that has the nodes of a tree: there is an answer, and it is the new tree
pub record IsBatchFrom (digest : List ℕ → List ℕ) (bits : ℕ) (gives : List ℕ → Option (List ℕ)) (n : ℕ)
    (cs : List Change) (es : List Pair) : Type 0 where
  pub left : List Shape
  pub log : Log
  pub answer : batch_from digest (shown_by gives) (layer_of_key digest bits) n cs (root digest bits es)
      ≡ Ok ((root digest bits (changed cs es), left), log)
  pub edit : IsEdit digest bits es (changed cs es) (shape digest (top (layer_of_key digest bits) (changed cs es)))
      (log.read ++ left) log.read log.made
  pub read_is : let layer = layer_of_key digest bits in
      log.read ++ left ≡ map (shape digest) (batch_read layer n cs (top layer es))
  pub made_is : let layer = layer_of_key digest bits in
      log.made ≡ map (shape digest) (batch_made layer n cs (top layer es))

abbrev pub BatchOverSource : Type 0
BatchOverSource = (digest : List ℕ → List ℕ) (bits : ℕ) → IsDigest digest
    → (gives : List ℕ → Option (List ℕ)) (n : ℕ) (cs : List Change) (es : List Pair) → ArePairs es
    → HasNodes digest bits gives es
    → top_layer (layer_of_key digest bits) es < n → top_layer (layer_of_key digest bits) (puts cs) < n
    → IsBatchFrom digest bits gives n cs es

-- the values that the walk meets, one for each change, are those that the keys had
abbrev pub PreviousIsValues : Type 0
PreviousIsValues = (digest : List ℕ → List ℕ) (bits : ℕ) → IsDigest digest
    → (gives : List ℕ → Option (List ℕ)) (cs : List Change) (es : List Pair) → ArePairs es
    → HasNodes digest bits gives es → AreAscending cs
    → let layer = layer_of_key digest bits in
    previous_top (shown_by gives) layer cs (shape digest (top layer es)) ≡ values cs es

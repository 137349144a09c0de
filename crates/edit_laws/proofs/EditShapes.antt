-- An edit of trees, in the shapes of its nodes.
use Rattle.std.proofs.Common.{ℕ, List, ◌++◌, map, refl, subst}
use Rattle.std.specs.Prelude.{Contains}
use Rattle.spec.specs.Layer.{layer}
use Rattle.spec.specs.Tree.{Pair, Node, top}
use Rattle.spec.specs.NodeFormat.{shape, shape_bytes, node_bytes}
use Rattle.spec.specs.Blocks.{IsClashFree, nodes}
use Rattle.edit_laws.specs.Changes.{AreChanges, add_of, drop_of}
use Rattle.edit_laws.specs.Laws.Edits.{IsEdit}
use Rattle.edit_laws.proofs.LookupTheorems.{map-two}

pub edit-shapes : (digest : List ℕ → List ℕ) (bits : ℕ) (es fs : List Pair) (read gone made : List Node)
    → ((b : List ℕ) → Contains (map (node_bytes digest) read) b → Contains (nodes digest bits es) b)
    → ((b : List ℕ) → Contains (map (node_bytes digest) made) b → Contains (nodes digest bits fs) b)
    → (IsClashFree digest (map (node_bytes digest) made ++ map (node_bytes digest) read)
    → AreChanges digest (nodes digest bits es) (nodes digest bits fs) (map (node_bytes digest) read)
    (add_of digest (map (node_bytes digest) read) (map (node_bytes digest) made))
    (drop_of digest (map (node_bytes digest) made) (map (node_bytes digest) gone)))
    → IsEdit digest bits es fs (shape digest (top (layer digest bits) fs)) (map (shape digest) read)
    (map (shape digest) gone) (map (shape digest) made)
edit-shapes digest bits es fs read gone made old new changed =
    let r = map-two shape_bytes (shape digest) read in
    let g = map-two shape_bytes (shape digest) gone in
    let m = map-two shape_bytes (shape digest) made in
    record {
      root_is = refl;
      read_old = λ b h. old b (subst (λ t. Contains t b) r h);
      made_new = λ b h. new b (subst (λ t. Contains t b) m h);
      changes = rw (r, g, m) changed;
    }

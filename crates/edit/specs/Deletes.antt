-- What a delete reads and answers.
use Rattle.std.specs.Prelude.{◌≡◌, ◌*◌, ℕ, zero, suc, List, length, map, Option, Some, None, IsSome}
use Rattle.spec.specs.Layer.{layer}
use Rattle.spec.specs.Tree.{Pair, top}
use Rattle.spec.specs.Writes.{without_key}
use Rattle.spec.specs.NodeFormat.{Shape, LastLink, MoreLinks, first_link, node_bytes}
use Rattle.edit_laws.specs.Trace.{delete_path_read}
use Rattle.edit_laws.specs.ShapeEdit.{last_link, links_beside}
use Rattle.edit_laws.specs.PathEdit.{lowest_shape, prune_link}
use Rattle.edit_laws.specs.Sources.{path_from, value_from, seam_from, pruned_from, delete_seam_from}
use Rattle.lookups.specs.Steps.{IsWholePath}
use Rattle.edit.specs.Edits.{IsEditOf}

-- ---- over any source

abbrev pub asked_seam_at : (Option (List ℕ) → Option (List ℕ) → ℕ) → Option Shape → Option Shape → ℕ
asked_seam_at further None t = 1
asked_seam_at further (Some s) None = 2
asked_seam_at further (Some s) (Some t) = suc (suc (further (last_link s) (first_link t)))

-- how many blocks are asked for where the nodes below two links meet: none unless both links are there
abbrev pub asked_seam : (List ℕ → Option Shape) → ℕ → Option (List ℕ) → Option (List ℕ) → ℕ
asked_seam shows zero x y = 0
asked_seam shows (suc n) None y = 0
asked_seam shows (suc n) (Some c) None = 0
asked_seam shows (suc n) (Some c) (Some d) = asked_seam_at (asked_seam shows n) (shows c) (shows d)

abbrev pub IsWholeSeam : (List ℕ → Option Shape) → ℕ → Option (List ℕ) → Option (List ℕ) → Type 0
IsWholeSeam shows n x y = asked_seam shows n x y ≡ 2 * length (seam_from shows n x y)

abbrev pub asked_pruned_at : (Option (List ℕ) → ℕ) → Option Shape → ℕ
asked_pruned_at further None = 1
asked_pruned_at further (Some (LastLink l)) = suc (further l)
asked_pruned_at further (Some (MoreLinks l e r)) = 1

-- how many blocks are asked for from a link down to the first node with a key
abbrev pub asked_pruned : (List ℕ → Option Shape) → ℕ → Option (List ℕ) → ℕ
asked_pruned shows zero l = 0
asked_pruned shows (suc n) None = 0
asked_pruned shows (suc n) (Some c) = asked_pruned_at (asked_pruned shows n) (shows c)

abbrev pub IsWholeChain : (List ℕ → Option Shape) → ℕ → Option (List ℕ) → Type 0
IsWholeChain shows n l = asked_pruned shows n l ≡ length (pruned_from shows n l)

-- the key is there, and each block that is asked for is there and is a node
pub record CanReadDelete (shows : List ℕ → Option Shape) (n : ℕ) (key root : List ℕ) : Type 0 where
  pub path : IsWholePath shows n key (Some root)
  pub there : IsSome (value_from shows n key (Some root))
  pub seam : let x = links_beside key (lowest_shape (path_from shows n key (Some root))) in IsWholeSeam shows n x.0 x.1
  pub chain : let path = path_from shows n key (Some root) in
      IsWholeChain shows n (prune_link key path (delete_seam_from shows n key path))

-- ---- over the pairs of a tree

-- the nodes that a delete reads: those of the key's path, those that meet where the key stood, and the chain below a top
-- that loses its only key
abbrev pub nodes_read : (List ℕ → List ℕ) → ℕ → List Pair → List ℕ → List (List ℕ)
nodes_read digest bits es key =
    map (node_bytes digest) (delete_path_read (layer digest bits) key (top (layer digest bits) es))

-- the tree of es loses a key that it has
pub record IsDeleteOf (digest : List ℕ → List ℕ) (bits : ℕ) (es : List Pair) (key : List ℕ) (root : List ℕ)
    (add drop : List (List ℕ)) (previous : Option (List ℕ)) : Type 0 where
  pub there : IsSome previous
  pub edit : IsEditOf digest bits es (without_key es key) key (nodes_read digest bits es key) root add drop previous

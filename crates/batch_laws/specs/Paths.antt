-- What one change reads, whatever the source shows.
use Rattle.std.specs.Prelude.{◌≡◌, ℕ, zero, suc, List, [], ◌∷◌, ◌++◌, Option, Some, None}
use Rattle.spec.specs.NodeFormat.{Shape, LastLink, MoreLinks, first_link}
use Rattle.edit_laws.specs.PathEdit.{lowest_shape, prune_link, delete_read}
use Rattle.edit_laws.specs.ShapeEdit.{last_link, links_beside}
use Rattle.edit_laws.specs.Sources.{gap, path_from, value_from, delete_seam_from, delete_pruned_from}
use Rattle.batch_laws.specs.Links.{Log, Top}
use Rattle.batch_laws.specs.Previous.{previous_top}

abbrev pub IsWholeAt : (Option (List ℕ) → Type 0) → List ℕ → Option Shape → Type 0
IsWholeAt further key None = ⊥
IsWholeAt further key (Some s) = further (gap key s)

-- the path of a key from a link on ends within k nodes, and each of them is shown
abbrev pub IsWhole : (List ℕ → Option Shape) → ℕ → List ℕ → Option (List ℕ) → Type 0
IsWhole shows zero key None = Unit {0}
IsWhole shows zero key (Some c) = ⊥
IsWhole shows (suc k) key None = Unit {0}
IsWhole shows (suc k) key (Some c) = IsWholeAt (IsWhole shows k key) key (shows c)

-- what is read is the whole path of a key from the root, over at most m nodes
pub record IsPathRead (shows : List ℕ → Option Shape) (m : ℕ) (key root : List ℕ) (top : Top) (log : Log) : Type 0 where
  pub whole : IsWhole shows m key (Some root)
  pub read_is : log.read ≡ path_from shows m key (Some root)
  pub none_left : top.1 ≡ []

-- ---- one delete: the path, the pairs of nodes that meet where the key stood, and the chain that is pruned

abbrev pub IsWholeSeamAt : (Option (List ℕ) → Option (List ℕ) → Type 0) → Option Shape → Option Shape → Type 0
IsWholeSeamAt further None t = ⊥
IsWholeSeamAt further (Some s) None = ⊥
IsWholeSeamAt further (Some s) (Some t) = further (last_link s) (first_link t)

-- what meets between two links ends within k pairs of nodes, and each of them is shown
abbrev pub IsWholeSeam : (List ℕ → Option Shape) → ℕ → Option (List ℕ) → Option (List ℕ) → Type 0
IsWholeSeam shows k None y = Unit {0}
IsWholeSeam shows k (Some c) None = Unit {0}
IsWholeSeam shows zero (Some c) (Some d) = ⊥
IsWholeSeam shows (suc k) (Some c) (Some d) = IsWholeSeamAt (IsWholeSeam shows k) (shows c) (shows d)

abbrev pub IsWholeChainAt : (Option (List ℕ) → Type 0) → Option Shape → Type 0
IsWholeChainAt further None = ⊥
IsWholeChainAt further (Some (LastLink l)) = further l
IsWholeChainAt further (Some (MoreLinks l e r)) = Unit {0}

-- the chain from a link down to a node with a pair ends within k nodes, and each of them is shown
abbrev pub IsWholeChain : (List ℕ → Option Shape) → ℕ → Option (List ℕ) → Type 0
IsWholeChain shows k None = Unit {0}
IsWholeChain shows zero (Some c) = ⊥
IsWholeChain shows (suc k) (Some c) = IsWholeChainAt (IsWholeChain shows k) (shows c)

-- what is read is this, whole, over at most m nodes on each way down; and what the walk meets is what a look-up finds
pub record IsDeleteRead (shows : List ℕ → Option Shape) (layer : List ℕ → ℕ) (m : ℕ) (key root : List ℕ) (top : Top)
    (log : Log) : Type 0 where
  pub path : IsWhole shows m key (Some root)
  pub seam : let path = path_from shows m key (Some root) in
      let x = links_beside key (lowest_shape path) in IsWholeSeam shows m x.0 x.1
  pub chain : let path = path_from shows m key (Some root) in
      IsWholeChain shows m (prune_link key path (delete_seam_from shows m key path))
  pub read_is : let path = path_from shows m key (Some root) in
      let seam = delete_seam_from shows m key path in
      log.read ++ top.1 ≡ delete_read path seam (delete_pruned_from shows m key path seam)
  pub previous : (s : Shape) → shows root ≡ Some s
      → previous_top shows layer ((key, None) ∷ []) s ≡ value_from shows m key (Some root) ∷ []

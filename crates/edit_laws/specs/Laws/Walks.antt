-- The laws of walks.
use Rattle.std.specs.Prelude.{◌≡◌, true, Option, Some, None, ℕ, ◌*◌, ◌<◌, ◌≤◌, List, [], length, map}
use Rattle.std.specs.List.{AllByRecursion}
use Rattle.std.specs.Cmp.Lexicographic.{slice_cmp}
use Rattle.std.specs.Ordering.{nat_cmp}
use Rattle.std.specs.FinMap.{is_sorted}
use Rattle.spec.specs.Cid.{IsDigest}
use Rattle.spec.specs.Layer.{layer}
use Rattle.spec.specs.Tree.{Pair, Sub, top, pairs_under}
use Rattle.spec.specs.NodeFormat.{Shape, shape, node_bytes}
use Rattle.spec.specs.Blocks.{ArePairs, listed, root, nodes}
use Rattle.edit_laws.specs.TreeEdit.{layer_of}
use Rattle.edit_laws.specs.Trace.{find_path}
use Rattle.edit_laws.specs.Walk.{walk, walk_reads, Ranged, ranged_in, is_above, is_under, nodes_meeting, last_key}
use Rattle.spec.specs.Sources.{HasNodes}
use Rattle.edit_laws.specs.Sources.{shown_by, walk_from, walk_path}

-- a walk over the tree of ascending pairs gives the first of them from a key on
abbrev pub WalkIsListed : Type 0
WalkIsListed = (layer : List ℕ → ℕ) (limit n : ℕ) (from : List ℕ) (es : List Pair)
    → is_sorted (slice_cmp nat_cmp) es ≡ true → layer_of layer (top layer es) < n
    → walk limit n from (Sub (top layer es)) [] ≡ listed from limit es

-- where it may give a pair, it reads exactly the nodes whose open range of keys meets the range from the key to the last
-- pair given, or to the key itself where none is; each once, and each before those below it; with limit 0 it reads none
abbrev pub WalkReadsRange : Type 0
WalkReadsRange = (layer : List ℕ → ℕ) (limit n : ℕ) (from : List ℕ) (es : List Pair)
    → is_sorted (slice_cmp nat_cmp) es ≡ true → layer_of layer (top layer es) < n → 0 < limit
    → walk_reads limit n from (Sub (top layer es)) []
    ≡ nodes_meeting from (last_key from (listed from limit es)) (Sub (top layer es))

-- these are nodes of the tree, each with one range
abbrev pub RangesAreNodes : Type 0
RangesAreNodes = (digest : List ℕ → List ℕ) (bits : ℕ) (es : List Pair)
    → map (λ (x : Ranged). node_bytes digest x.node) (ranged_in None None (Sub (top (layer digest bits) es)))
    ≡ nodes digest bits es

-- which holds the keys of the node and of all nodes below it
abbrev pub IsInRange : Ranged → Type 0
IsInRange x = AllByRecursion (λ e. (is_above x.above e.0 ≡ true) × (is_under x.under e.0 ≡ true)) (pairs_under x.node)

abbrev pub RangesHoldKeys : Type 0
RangesHoldKeys = (layer : List ℕ → ℕ) (es : List Pair) → is_sorted (slice_cmp nat_cmp) es ≡ true
    → AllByRecursion IsInRange (ranged_in None None (Sub (top layer es)))

-- the path of a key is the nodes whose open range holds it
abbrev pub PathIsRange : Type 0
PathIsRange = (layer : List ℕ → ℕ) (n : ℕ) (key : List ℕ) (es : List Pair) → is_sorted (slice_cmp nat_cmp) es ≡ true
    → layer_of layer (top layer es) < n
    → find_path n key (Sub (top layer es)) ≡ nodes_meeting key key (Sub (top layer es))

-- no more than n nodes are read for each pair, whatever the source shows
abbrev pub WalkBound : Type 0
WalkBound = (shows : List ℕ → Option Shape) (limit n : ℕ) (from : List ℕ) (l : Option (List ℕ))
    (stack : List (Pair × Shape))
    → length (walk_path shows limit n from l stack) ≤ limit * n

-- from the root, over a source that has the nodes of a tree
pub record IsWalk (digest : List ℕ → List ℕ) (bits : ℕ) (gives : List ℕ → Option (List ℕ)) (n limit : ℕ)
    (from : List ℕ) (es : List Pair) : Type 0 where
  pub given : walk_from (shown_by gives) limit n from (Some (root digest bits es)) [] ≡ listed from limit es
  pub reads : 0 < limit
      → walk_path (shown_by gives) limit n from (Some (root digest bits es)) []
      ≡ map (shape digest) (nodes_meeting from (last_key from (listed from limit es)) (Sub (top (layer digest bits) es)))

abbrev pub WalkOverSource : Type 0
WalkOverSource = (digest : List ℕ → List ℕ) (bits : ℕ) → IsDigest digest
    → (gives : List ℕ → Option (List ℕ)) (n limit : ℕ) (from : List ℕ) (es : List Pair) → ArePairs es
    → HasNodes digest bits gives es
    → layer_of (layer digest bits) (top (layer digest bits) es) < n → IsWalk digest bits gives n limit from es

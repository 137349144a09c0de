-- The laws of look-ups.
use Rattle.std.specs.Prelude.{◌≡◌, true, Option, Some, None, ℕ, suc, ◌/◌, ◌<◌, ◌≤◌, List, length, map}
use Rattle.std.specs.Cmp.Lexicographic.{slice_cmp}
use Rattle.std.specs.Ordering.{nat_cmp}
use Rattle.std.specs.FinMap.{is_sorted}
use Rattle.spec.specs.Cid.{IsDigest}
use Rattle.spec.specs.Reading.{IsBytes}
use Rattle.spec.specs.Layer.{layer}
use Rattle.spec.specs.Tree.{Pair, Sub, top}
use Rattle.spec.specs.NodeFormat.{Shape, node_bytes, shape_bytes, first_link, entries_of, is_node}
use Rattle.spec.specs.Blocks.{ArePairs, value_of, root}
use Rattle.spec.specs.Proof.{path, Place, Here, Below, Gap, place}
use Rattle.edit_laws.specs.TreeEdit.{layer_of, find}
use Rattle.edit_laws.specs.Trace.{find_path}
use Rattle.spec.specs.Sources.{HasNodes}
use Rattle.edit_laws.specs.Sources.{shown_by, shape_of_bytes, entry_value, gap, path_from, value_from}

-- a look-up in the tree of ascending pairs finds the key's value, with any bound above the top's layer
abbrev pub FindIsValue : Type 0
FindIsValue = (layer : List ℕ → ℕ) (n : ℕ) (key : List ℕ) (es : List Pair) → is_sorted (slice_cmp nat_cmp) es ≡ true
    → layer_of layer (top layer es) < n
    → find n key (Sub (top layer es)) ≡ value_of key es

-- it reads at most one node for each layer
abbrev pub FindReads : Type 0
FindReads = (layer : List ℕ → ℕ) (n : ℕ) (key : List ℕ) (es : List Pair)
    → length (find_path n key (Sub (top layer es))) ≤ suc (layer_of layer (top layer es))

-- a digest of 32 bytes has 256 bits, so no top has a higher layer than that
abbrev pub TopHasLayer : Type 0
TopHasLayer = (digest : List ℕ → List ℕ) (bits : ℕ) → IsDigest digest → (es : List Pair)
    → layer_of (layer digest bits) (top (layer digest bits) es) ≤ 256 / bits

-- nor has a key
abbrev pub KeyHasLayer : Type 0
KeyHasLayer = (digest : List ℕ → List ℕ) (bits : ℕ) → IsDigest digest → (key : List ℕ)
    → layer digest bits key ≤ 256 / bits

-- the nodes of a key's path are those that a look-up reads
abbrev pub PathIsRead : Type 0
PathIsRead = (digest : List ℕ → List ℕ) (bits n : ℕ) (es : List Pair) (key : List ℕ)
    → let t = top (layer digest bits) es in
    layer_of (layer digest bits) t < n → path digest bits es key ≡ map (node_bytes digest) (find_path n key (Sub t))

-- the value at a place in a node, and the link to go on with
abbrev pub found_at : Place → Option (List ℕ) × Option (List ℕ)
found_at (Here e) = (Some e.value, None)
found_at (Below c) = (None, Some c)
found_at Gap = (None, None)

-- one step of a look-up is the place of the key among a node's entries
abbrev pub StepIsPlace : Type 0
StepIsPlace = (key : List ℕ) (s : Shape)
    → found_at (place key (first_link s) (entries_of s)) ≡ (entry_value key s, gap key s)

-- no more than n nodes are read, whatever the source shows
abbrev pub PathBound : Type 0
PathBound = (shows : List ℕ → Option Shape) (n : ℕ) (key : List ℕ) (l : Option (List ℕ))
    → length (path_from shows n key l) ≤ n

-- a shape of the node grammar is read from its bytes, and bytes that read as a shape are its bytes
abbrev pub ShapeReadsBack : Type 0
ShapeReadsBack = (s : Shape) → is_node (first_link s) (entries_of s) ≡ true → shape_of_bytes (shape_bytes s) ≡ Some s

abbrev pub OnlyShapesAreRead : Type 0
OnlyShapesAreRead = (bytes : List ℕ) (s : Shape) → IsBytes bytes → shape_of_bytes bytes ≡ Some s
    → (bytes ≡ shape_bytes s) × (is_node (first_link s) (entries_of s) ≡ true)

-- from the root, over a source that has the nodes of a tree
pub record IsLookup (digest : List ℕ → List ℕ) (bits : ℕ) (gives : List ℕ → Option (List ℕ)) (n : ℕ) (key : List ℕ)
    (es : List Pair) : Type 0 where
  pub value : value_from (shown_by gives) n key (Some (root digest bits es)) ≡ value_of key es
  -- the blocks read are the path of the key's proof
  pub reads : map shape_bytes (path_from (shown_by gives) n key (Some (root digest bits es))) ≡ path digest bits es key
  pub count : length (path_from (shown_by gives) n key (Some (root digest bits es)))
      ≤ suc (layer_of (layer digest bits) (top (layer digest bits) es))

abbrev pub LookupOverSource : Type 0
LookupOverSource = (digest : List ℕ → List ℕ) (bits : ℕ) → IsDigest digest
    → (gives : List ℕ → Option (List ℕ)) (n : ℕ) (key : List ℕ) (es : List Pair) → ArePairs es
    → HasNodes digest bits gives es
    → layer_of (layer digest bits) (top (layer digest bits) es) < n → IsLookup digest bits gives n key es

-- The condition of look-ups and walks.
use Rattle.std.specs.Prelude.{◌≡◌, ℕ, List, Option, option_map}
use Rattle.std.specs.Arc.{arc_value}
use Rattle.std.specs.declared.sync.Arc.{Arc}
use Rattle.spec.specs.Tree.{Pair, top}
use Rattle.spec.specs.Layer.{layer}
use Rattle.spec.specs.Blocks.{ArePairs, root as root_of}
use Rattle.spec.specs.Sources.{HasNodes}
use Rattle.edit_laws.specs.TreeEdit.{layer_of}

-- the root is that of the tree of these pairs, and the source has each node of the tree
pub record HasTree (digest : List ℕ → List ℕ) (bits : ℕ) (gives : List ℕ → Option (List ℕ)) (root : List ℕ)
    (es : List Pair) : Type 0 where
  pub pairs : ArePairs es
  pub root_is : root ≡ root_of digest bits es
  pub nodes : HasNodes digest bits gives es

-- the bytes of the blocks that a source gives
abbrev pub bytes_given : {A : Type 0} → (List ℕ → Option (Arc (List ℕ) A)) → List ℕ → Option (List ℕ)
bytes_given gives = λ c. option_map arc_value (gives c)

-- P holds of whatever pairs the tree with this root has in a source of blocks
abbrev pub OfTree : {A : Type 0} → (List ℕ → List ℕ) → ℕ → (List ℕ → Option (Arc (List ℕ) A)) → List ℕ
    → (List Pair → Type 0) → Type 0
OfTree digest bits gives root P = (es : List Pair) → HasTree digest bits (bytes_given gives) root es → P es

-- and in a source of anything, where view is the bytes of what is given
abbrev pub OfTreeIn : {X : Type 0} → (X → List ℕ) → (List ℕ → List ℕ) → ℕ → (List ℕ → Option X) → List ℕ
    → (List Pair → Type 0) → Type 0
OfTreeIn view digest bits gives root P =
    (es : List Pair) → HasTree digest bits (λ c. option_map view (gives c)) root es → P es

-- the layer of the top
abbrev pub top_layer : (List ℕ → List ℕ) → ℕ → List Pair → ℕ
top_layer digest bits es = layer_of (layer digest bits) (top (layer digest bits) es)

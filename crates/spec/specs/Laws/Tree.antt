-- The tree of a list of pairs has these pairs in order, a node goes down layer by layer, and no other tree does so.
use Rattle.std.specs.Prelude.{◌≡◌, ◌≢◌, ℕ, zero, suc, List, []}
use Rattle.spec.specs.Tree.{Pair, Node, Last, More, Part, Nothing, Sub, Groups, cut, IsCut, top, top_layer, pairs_under, EachUnder}

-- a cut has the list's pairs in order, with the layer's pairs between groups of others; and there is no other
abbrev pub CutIsTheOnlyOne : Type 0
CutIsTheOnlyOne = (layer : List ℕ → ℕ) (n : ℕ) (es : List Pair) → IsCut layer n es (cut layer n es) × ((g : Groups) → IsCut layer n es g → g ≡ cut layer n es)

-- the pairs of a tree, read in order, are the list that it was built from
abbrev pub PairsAreInOrder : Type 0
PairsAreInOrder = (layer : List ℕ → ℕ) (es : List Pair) → pairs_under (top layer es) ≡ es

-- each key of the node has layer n, and each subtree is a node of the layer just below n
abbrev mutual
  pub HasLayer : (List ℕ → ℕ) → ℕ → Node → Type 0
  HasLayer layer n (Last p) = IsJustBelow layer n p
  HasLayer layer n (More p e r) = IsJustBelow layer n p × (layer e.0 ≡ n) × HasLayer layer n r

  pub IsJustBelow : (List ℕ → ℕ) → ℕ → Part → Type 0
  IsJustBelow layer n Nothing = Unit {0}
  IsJustBelow layer zero (Sub m) = ⊥
  IsJustBelow layer (suc n) (Sub m) = HasLayer layer n m

-- the top has the greatest layer, and each link goes down exactly one
abbrev pub LinksGoDownOneLayer : Type 0
LinksGoDownOneLayer = (layer : List ℕ → ℕ) (es : List Pair) → HasLayer layer (top_layer layer es) (top layer es)

-- there is a key in the node or below it
abbrev pub HasPairs : Node → Type 0
HasPairs m = pairs_under m ≢ []

-- each node below the top has a key in it or below it
abbrev pub NoSubtreeIsEmpty : Type 0
NoSubtreeIsEmpty = (layer : List ℕ → ℕ) (es : List Pair) → EachUnder HasPairs (top layer es)

-- these facts determine the tree: it depends on the pairs alone, and not on how they came
abbrev pub TreeIsTheOnlyOne : Type 0
TreeIsTheOnlyOne = (layer : List ℕ → ℕ) (es : List Pair) (m : Node) → pairs_under m ≡ es → HasLayer layer (top_layer layer es) m → EachUnder HasPairs m → m ≡ top layer es

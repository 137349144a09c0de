-- What a source gives for a CID: the bytes of a block, where it has one.
use Rattle.std.specs.Prelude.{◌≡◌, Contains, ℕ, List, Option, Some}
use Rattle.spec.specs.Cid.{cid}
use Rattle.spec.specs.Tree.{Pair}
use Rattle.spec.specs.Blocks.{nodes}

-- the source has each of these blocks under its CID
abbrev pub HasBlocks : (List ℕ → List ℕ) → (List ℕ → Option (List ℕ)) → List (List ℕ) → Type 0
HasBlocks digest gives bs = (b : List ℕ) → Contains bs b → gives (cid digest b) ≡ Some b

-- and each node of the tree of these pairs
abbrev pub HasNodes : (List ℕ → List ℕ) → ℕ → (List ℕ → Option (List ℕ)) → List Pair → Type 0
HasNodes digest bits gives es = HasBlocks digest gives (nodes digest bits es)

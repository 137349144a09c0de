-- The trees of a source.
use Rattle.std.proofs.Common.{◌≡◌, ℕ, List}
use Rattle.std.specs.Prelude.{Option, Some}
use Rattle.spec.specs.Cid.{cid as cid_of}
use Rattle.spec.specs.Tree.{Pair}
use Rattle.lookups.specs.Trees.{HasTree}

-- a source that has each block of another one has its trees
pub lent_tree : (digest : List ℕ → List ℕ) (bits : ℕ) (gives shown : List ℕ → Option (List ℕ)) (root : List ℕ) (es : List Pair)
    → ((c bytes : List ℕ) → gives c ≡ Some bytes → shown c ≡ Some bytes) → HasTree digest bits gives root es → HasTree digest bits shown root es
lent_tree digest bits gives shown root es has h = record {
  pairs = h.pairs;
  root_is = h.root_is;
  nodes = λ b c. has (cid_of digest b) b (h.nodes b c);
}

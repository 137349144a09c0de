-- A tree has each of its nodes once.
use Rattle.std.specs.Prelude.{◌≡◌, ℕ, List}
use Rattle.spec.specs.Cid.{IsDigest, cid}
use Rattle.spec.specs.Tree.{Pair}
use Rattle.spec.specs.Blocks.{ArePairs, IsClashFree, nodes, firsts}

-- where no two nodes of a tree clash, no node stands twice among its blocks
abbrev pub NodesStandOnce : Type 0
NodesStandOnce = (digest : List ℕ → List ℕ) (bits : ℕ) (es : List Pair) → IsDigest digest → ArePairs es
    → IsClashFree digest (nodes digest bits es) → firsts (cid digest) (nodes digest bits es) ≡ nodes digest bits es

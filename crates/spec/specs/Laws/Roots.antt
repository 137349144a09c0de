-- The root names the contents.
use Rattle.std.specs.Prelude.{◌≡◌, ℕ, List, ◌++◌}
use Rattle.spec.specs.Cid.{IsDigest}
use Rattle.spec.specs.Tree.{Pair}
use Rattle.spec.specs.Blocks.{ArePairs, IsClashFree, nodes, root}

-- two lists of pairs with one root are one list, where no two nodes of their trees clash
abbrev pub RootNamesContents : Type 0
RootNamesContents = (digest : List ℕ → List ℕ) (bits : ℕ) (es fs : List Pair) → IsDigest digest → ArePairs es → ArePairs fs
    → IsClashFree digest (nodes digest bits es ++ nodes digest bits fs) → root digest bits es ≡ root digest bits fs → es ≡ fs

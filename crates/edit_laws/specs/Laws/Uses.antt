-- What an edit and a commit do to the blocks of a repository and to how often they are used.
use Rattle.std.specs.Prelude.{◌≡◌, ◌⊎◌, ◌++◌, ◌+◌, ℕ, true, Contains, List, Option}
use Rattle.std.specs.Cmp.Lexicographic.{slice_cmp}
use Rattle.std.specs.Ordering.{nat_cmp}
use Rattle.std.specs.FinMap.{is_sorted}
use Rattle.spec.specs.Cid.{IsDigest}
use Rattle.spec.specs.Tree.{Pair}
use Rattle.spec.specs.Blocks.{ArePairs, IsClash, IsClashFree, nodes, blocks}
use Rattle.edit_laws.specs.Changes.{count, AreChanges}
use Rattle.spec.specs.Sources.{HasBlocks}
use Rattle.edit_laws.specs.Uses.{uses}

-- an edit exchanges uses of nodes, CID by CID: one comes for each block added, one goes for each
-- dropped
abbrev pub EditKeepsUses : Type 0
EditKeepsUses = (digest : List ℕ → List ℕ) (bits : ℕ) → IsDigest digest
    → (es fs : List Pair) → ArePairs es → ArePairs fs → (read add drop : List (List ℕ))
    → AreChanges digest (nodes digest bits es) (nodes digest bits fs) read add drop
    → IsClashFree digest (nodes digest bits es) → IsClashFree digest (nodes digest bits fs)
    → (c : List ℕ) → uses digest c (nodes digest bits fs) + count c drop
    ≡ uses digest c (nodes digest bits es) + uses digest c add

-- a commit takes the place of the one before, as further blocks in place of others
abbrev pub CommitKeepsUses : Type 0
CommitKeepsUses = (digest : List ℕ → List ℕ) (bits : ℕ) (old new : List (List ℕ))
    (m : List (List ℕ × List ℕ)) (gives : List ℕ → Option (List ℕ))
    → is_sorted (slice_cmp nat_cmp) m ≡ true
    → HasBlocks digest gives (blocks digest bits old m) → HasBlocks digest gives new
    → HasBlocks digest gives (blocks digest bits new m)
    × ((c : List ℕ) → uses digest c (blocks digest bits new m) + uses digest c old
    ≡ uses digest c (blocks digest bits old m) + uses digest c new)

-- of two nodes that clash, of the tree before or of the one after, one is of the one after
abbrev pub ClashIsNew : Type 0
ClashIsNew = (digest : List ℕ → List ℕ) (old new : List (List ℕ)) → IsClashFree digest old
    → (a b : List ℕ) → Contains (old ++ new) a → Contains (old ++ new) b → IsClash digest a b
    → Contains new a ⊎ Contains new b

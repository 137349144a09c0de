-- Sources that have the blocks of a repository.
use Rattle.std.specs.Prelude.{◌≡◌, ℕ, true, List, nat_lt, Option, None, if◌then◌else◌}
use Rattle.std.specs.Cmp.Lexicographic.{slice_cmp}
use Rattle.std.specs.Ordering.{nat_cmp}
use Rattle.std.specs.FinMap.{is_sorted}
use Rattle.spec.specs.Blocks.{IsClashFree, blocks, block_at, pairs}
use Rattle.spec.specs.Sources.{HasBlocks, HasNodes}
use Rattle.edit_laws.specs.Uses.{uses}

-- blocks that one source has under their CIDs don't clash
abbrev pub SourceIsClashFree : Type 0
SourceIsClashFree =
    (digest : List ℕ → List ℕ) (gives : List ℕ → Option (List ℕ)) (bs : List (List ℕ))
    → HasBlocks digest gives bs → IsClashFree digest bs

-- and blocks that don't clash are a source of themselves
abbrev pub BlocksAreSource : Type 0
BlocksAreSource = (digest : List ℕ → List ℕ) (bs : List (List ℕ)) → IsClashFree digest bs
    → HasBlocks digest (λ c. block_at digest c bs) bs

-- a source of a repository's blocks has the nodes of its tree
abbrev pub SourceHasNodes : Type 0
SourceHasNodes =
    (digest : List ℕ → List ℕ) (bits : ℕ) (further : List (List ℕ)) (m : List (List ℕ × List ℕ))
    → is_sorted (slice_cmp nat_cmp) m ≡ true → (gives : List ℕ → Option (List ℕ))
    → HasBlocks digest gives (blocks digest bits further m)
    → HasNodes digest bits gives (pairs digest m)

-- what it gives under a CID that is used is the block with that CID, and under another there is
-- none
abbrev pub SourceGivesBlock : Type 0
SourceGivesBlock =
    (digest : List ℕ → List ℕ) (bs : List (List ℕ)) (gives : List ℕ → Option (List ℕ))
    → HasBlocks digest gives bs → (c : List ℕ)
    → block_at digest c bs ≡ (if nat_lt 0 (uses digest c bs) then gives c else None)

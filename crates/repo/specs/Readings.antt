-- What a core answers about its records and its blocks.
use Rattle.std.specs.Prelude.{◌≡◌, ℕ, List, Bool, Option, Some, is_some, option_map}
use Rattle.std.specs.Arc.{arc_value}
use Rattle.std.specs.Cmp.Lexicographic.{slice_cmp}
use Rattle.std.specs.FinMap.{find}
use Rattle.std.specs.Ordering.{nat_cmp}
use Rattle.spec.specs.Cid.{cid as cid_of}
use Rattle.spec.specs.Tree.{Pair}
use Rattle.spec.specs.Blocks.{block_at, listed, pairs}
use Rattle.spec.specs.States.{State, records, state_root, state_blocks}
use Rattle.spec.specs.Sources.{HasBlocks}
use Rattle.lookups.specs.Trees.{HasTree}
use Rattle.edit_laws.specs.Uses.{uses as uses_of}
use Rattle.kept.specs.declared.kept_use.Use.{Use}
use Rattle.kept.specs.Uses.{Uses, at, lent}
use Rattle.repo.specs.Cores.{AreEachOnce}

-- the record of a key
abbrev pub record_at : State → List ℕ → Option (List ℕ)
record_at s key = find (slice_cmp nat_cmp) key (records s)

-- the block with a CID
abbrev pub state_block : (List ℕ → List ℕ) → ℕ → State → List ℕ → Option (List ℕ)
state_block digest bits s cid = block_at digest cid (state_blocks digest bits s)

-- whether it has a block with a CID
abbrev pub has_block : (List ℕ → List ℕ) → ℕ → State → List ℕ → Bool
has_block digest bits s cid = is_some (state_block digest bits s cid)

-- the first pairs of a key and its record's CID from a key on, so many
abbrev pub pairs_from : (List ℕ → List ℕ) → State → List ℕ → ℕ → List Pair
pairs_from digest s from limit = listed from limit (pairs digest (records s))

-- the bytes of the block that is lent for a CID
abbrev pub bytes_lent : {D A : Type 0} → Uses D A → List ℕ → Option (List ℕ)
bytes_lent uses cid = option_map arc_value (lent uses cid)

-- a list has each block of the state once, and no other
abbrev pub AreBlocksOnce : (List ℕ → List ℕ) → ℕ → State → List (List ℕ) → Type 0
AreBlocksOnce digest bits s once = AreEachOnce digest (state_blocks digest bits s) once

-- each block of the state is lent
abbrev pub LendsBlocks : {D A : Type 0} → (List ℕ → List ℕ) → ℕ → State → Uses D A → Type 0
LendsBlocks digest bits s uses = HasBlocks digest (bytes_lent uses) (state_blocks digest bits s)

-- and so is the tree of its records
abbrev pub LendsTree : {D A : Type 0} → (List ℕ → List ℕ) → ℕ → State → Uses D A → Type 0
LendsTree digest bits s uses =
    HasTree digest bits (bytes_lent uses) (state_root digest bits s) (pairs digest (records s))

-- each block that is lent is used as often as it stands among those of the state
abbrev pub CountsBlocks : {D A : Type 0} → (List ℕ → List ℕ) → ℕ → State → Uses D A → Type 0
CountsBlocks digest bits s uses =
    (c : List ℕ) (u : Use _ _) → at uses c ≡ Some u
    → u.uses ≡ uses_of digest (cid_of digest (arc_value u.hold.0)) (state_blocks digest bits s)

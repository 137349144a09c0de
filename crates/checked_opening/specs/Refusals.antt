-- Why a repository isn't opened.
use Rattle.std.specs.Prelude.{◌⊎◌, ◌<◌, ⊤, ℕ, List, length}
use Rattle.spec.specs.Writes.{Write}
use Rattle.spec.specs.Stamps.{Stamp}
use Rattle.spec.specs.States.{State, fresh, state_blocks}
use Rattle.signed_commits.specs.Views.{commit_of}
use Rattle.batches.specs.declared.fault.RepoFault.{RepoFault}
use Rattle.batches.specs.declared.fault.RepoFault.TheVariants as faults
use Rattle.repo.specs.BlockFaults.{IsClashAt}
use Rattle.repo.specs.Refusals.{blocks_shown}
use Rattle.repository_check.specs.Views.{records_of}
use Rattle.repository_check.specs.declared.repository.Repository.{Repository}
use Rattle.checked_opening.specs.Opening.{creates, stamp_in}

-- two blocks that clash, of which one is of the repository after the writes up to some place
pub record IsClashOnTheWay (digest : List ℕ → List ℕ) (bits : ℕ) (s : State) (stamp : Stamp)
    (batch : List Write) (pair : List ℕ × List ℕ) : Type 0 where
  pub place : ℕ
  pub within : place < length batch
  pub clash : IsClashAt digest (blocks_shown digest bits s stamp batch place) pair

-- a batch that passes its tests: such a clash, a store that has answered that it's full, or a want
-- of memory
abbrev pub IsBatchRefusal : {D A : Type 0} → (List ℕ → List ℕ) → ℕ → State → Stamp → List Write
    → ℕ → ℕ → RepoFault D A → Type 0
IsBatchRefusal digest bits s stamp batch before after (faults.Collision pair) =
    IsClashOnTheWay digest bits s stamp batch pair
IsBatchRefusal digest bits s stamp batch before after faults.StoreFull = before < after
IsBatchRefusal digest bits s stamp batch before after faults.NoMemory = ⊤
IsBatchRefusal digest bits s stamp batch before after fault = ⊥

-- The repository of these records: too many of them; a clash with its first block, the empty node,
-- or on the way to the last record; a store that has answered that it's full; a want of memory.
abbrev pub AreRefused : {D A : Type 0} → (List ℕ → List ℕ) → ℕ → State → Stamp → List Write → ℕ
    → ℕ → RepoFault D A → Type 0
AreRefused digest bits s stamp batch before after (faults.Collision pair) =
    IsClashAt digest (state_blocks digest bits s) pair
    ⊎ IsClashOnTheWay digest bits s stamp batch pair
AreRefused digest bits s stamp batch before after faults.WritesFull = s.limit < length batch
AreRefused digest bits s stamp batch before after faults.StoreFull = before < after
AreRefused digest bits s stamp batch before after faults.NoMemory = ⊤
AreRefused digest bits s stamp batch before after fault = ⊥

-- of a file that was checked
abbrev pub IsRefusal : {D A : Type 0} → (List ℕ → List ℕ) → ℕ → ℕ → ℕ → Repository A → ℕ → ℕ
    → RepoFault D A → Type 0
IsRefusal digest bits me limit r before after fault =
    AreRefused digest bits (fresh me limit) (stamp_in (commit_of r.commit))
    (creates (records_of r)) before after fault

-- When a batch is refused.
use Rattle.std.specs.Prelude.{◌≡◌, ℕ, ◌+◌, ◌-◌, ◌<◌, ◌++◌, ◌==◌, if◌then◌else◌, List, []}
use Rattle.std.specs.Prelude.{take, length, Option, Some, None, Result, Ok, Err}
use Rattle.spec.specs.Blocks.{blocks, repository_root}
use Rattle.spec.specs.Stamps.{Stamp}
use Rattle.spec.specs.Writes.{Write, WriteFault, limited_test}
use Rattle.spec.specs.Commits.{commit_blocks}
use Rattle.spec.specs.States.{State, BatchFault, after_batch, state_test, state_root, state_blocks, state_commit}
use Rattle.edit_laws.specs.Staged.{records_after}
use Rattle.kept.specs.Counts.{Counts}
use Rattle.repo.specs.Keeping.{AreKept}
use Rattle.batches.specs.Tests.{test_fault}
use Rattle.repo.specs.BlockFaults.{IsBlockFault, IsClashAt}
use Rattle.repo.specs.Wants.{placed}
use Rattle.repo.specs.declared.applied.Applied.{Applied}
use Rattle.batches.specs.declared.fault.RepoFault.{RepoFault}
use Rattle.batches.specs.declared.fault.RepoFault.TheVariants as faults

-- the writes up to a place are taken, that one too
abbrev pub PassesTo : State → Stamp → List Write → ℕ → Type 0
PassesTo s stamp batch i = (i < length batch) × (state_test s stamp (take (i + 1) batch) ≡ Ok tt)

-- the writes before a place are taken
abbrev pub PassesBefore : State → Stamp → List Write → ℕ → Type 0
PassesBefore s stamp batch i =
    (i < length batch) × (0 < i → state_test s stamp (take i batch) ≡ Ok tt)

-- the nodes and records after the writes up to a place, and at the last place the commit
abbrev pub blocks_shown : (List ℕ → List ℕ) → ℕ → State → Stamp → List Write → ℕ → List (List ℕ)
blocks_shown digest bits s stamp batch i =
    let m = records_after s (take (i + 1) batch) in
    let commit = commit_blocks (Some stamp) (repository_root digest bits m) in
    blocks digest bits (if i + 1 == length batch then commit else []) m

-- What a refusal says that no test gives. At a clash the writes up to the place pass, and one of
-- the two blocks is of the repository after them. A store that is full has answered so in this
-- call, and those writes pass too. Where memory was refused, the writes before the place pass.
abbrev pub IsOther : {D A : Type 0} → (List ℕ → List ℕ) → ℕ → State → Stamp → List Write → ℕ → ℕ
    → ℕ → RepoFault D A → Type 0
IsOther digest bits s stamp batch full fuller i (faults.Collision pair) =
    PassesTo s stamp batch i × IsClashAt digest (blocks_shown digest bits s stamp batch i) pair
IsOther digest bits s stamp batch full fuller i faults.StoreFull =
    PassesTo s stamp batch i × (full < fuller)
IsOther digest bits s stamp batch full fuller i faults.NoMemory = PassesBefore s stamp batch i
IsOther digest bits s stamp batch full fuller i faults.BadKey = ⊥
IsOther digest bits s stamp batch full fuller i (faults.BadRecord f) = ⊥
IsOther digest bits s stamp batch full fuller i faults.NotAMap = ⊥
IsOther digest bits s stamp batch full fuller i faults.RecordSize = ⊥
IsOther digest bits s stamp batch full fuller i faults.KeyExists = ⊥
IsOther digest bits s stamp batch full fuller i faults.NoSuchKey = ⊥
IsOther digest bits s stamp batch full fuller i faults.WritesFull = ⊥
IsOther digest bits s stamp batch full fuller i faults.EmptyBatch = ⊥
IsOther digest bits s stamp batch full fuller i faults.BadDid = ⊥
IsOther digest bits s stamp batch full fuller i faults.BadRev = ⊥
IsOther digest bits s stamp batch full fuller i faults.RevOrder = ⊥

abbrev pub IsRefusalBy : {D A : Type 0} → (List ℕ → List ℕ) → ℕ → State → Stamp → List Write → ℕ
    → ℕ → ℕ → RepoFault D A → Option BatchFault → Type 0
IsRefusalBy digest bits s stamp batch full fuller i fault None =
    IsOther digest bits s stamp batch full fuller i fault
IsRefusalBy digest bits s stamp batch full fuller i fault (Some f) =
    state_test s stamp batch ≡ Err (i, f)

-- The batch is refused at this write with this fault, by a test exactly where the test says so. The
-- store has answered so often that it's full, before and after.
abbrev pub IsRefusal : {D A : Type 0} → (List ℕ → List ℕ) → ℕ → State → Stamp → List Write → ℕ → ℕ
    → ℕ × RepoFault D A → Type 0
IsRefusal digest bits s stamp batch full fuller e =
    IsRefusalBy digest bits s stamp batch full fuller e.0 e.1 (test_fault e.1)

-- a new repository is refused by its one block, the empty node
abbrev pub IsOpenRefusal : {D A : Type 0} → (List ℕ → List ℕ) → ℕ → State → ℕ → ℕ → RepoFault D A
    → Type 0
IsOpenRefusal digest bits s full fuller fault =
    IsBlockFault digest (state_blocks digest bits s) full fuller fault

-- what an accepted batch answers: how many writes there are, the root, the one before, the commit
pub record IsApplied (digest : List ℕ → List ℕ) (bits : ℕ) (old new : State) (a : Applied)
    : Type 0 where
  pub number : a.number ≡ length new.accepted
  pub root : a.root ≡ state_root digest bits new
  pub previous : a.previous ≡ state_root digest bits old
  pub commit : Some a.commit ≡ state_commit digest bits new

-- ---- on the way

-- the test of a write after those before it
abbrev pub next_test : State → List Write → Write → Result (Unit {0}) WriteFault
next_test s before w =
    limited_test s.limit (length (s.accepted ++ before)) (records_after s before) w

-- After a batch and its commit: the root and the commit are those of the state after it, and its blocks
-- are kept.
pub record IsStagedBatch (digest : List ℕ → List ℕ) (bits : ℕ) (s : State) (stamp : Stamp)
    (batch : List Write) (root commit : List ℕ) (m : Counts) : Type 0 where
  pub passes : state_test s stamp batch ≡ Ok tt
  pub root_is : root ≡ state_root digest bits (after_batch s stamp batch)
  pub commit_is : Some commit ≡ state_commit digest bits (after_batch s stamp batch)
  pub kept : AreKept digest (state_blocks digest bits (after_batch s stamp batch)) m

-- The store refuses a batch that passed its tests, or memory was wanted: at its last write, and at
-- the first one for want of memory.
pub record IsStoreRefusal {D A : Type 0} (digest : List ℕ → List ℕ) (bits : ℕ) (s : State)
    (stamp : Stamp) (batch : List Write) (full fuller : ℕ) (e : ℕ × RepoFault D A) : Type 0 where
  pub other : IsOther digest bits s stamp batch full fuller e.0 e.1
  pub place : e ≡ placed (length batch - 1) e.1

-- a test refuses it, or memory was wanted: the store wasn't asked
abbrev pub IsTestRefusal : {D A : Type 0} → (List ℕ → List ℕ) → ℕ → State → Stamp → List Write
    → ℕ × RepoFault D A → Type 0
IsTestRefusal digest bits s stamp batch e =
    (full : ℕ) → IsRefusal digest bits s stamp batch full full e

-- What a call sees of a repository: each answer is right for a lawful state of this repository.
use Rattle.std.specs.Prelude.{◌≡◌, ◌≤◌, ℕ, List, length, Option, Ok, slice_index}
use Rattle.spec.specs.Stamps as stamps
use Rattle.spec.specs.Writes as writes
use Rattle.spec.specs.Tree.{Pair}
use Rattle.spec.specs.States.{State, IsLawful, after_batch, state_test, state_root}
use Rattle.batches.specs.declared.fault.RepoFault.{RepoFault}
use Rattle.repo.specs.Readings.{record_at, pairs_from}
use Rattle.repo.specs.Refusals.{IsRefusal, IsApplied}
use Rattle.repo.specs.declared.applied.Applied.{Applied}
use Rattle.host.specs.Views.{HostView, WriterView}

-- which repository a call wants: its number, how many writes it may have, and how many accepted
-- writes the caller has seen there
pub record Wanted : Type 0 where
  pub repo : ℕ
  pub limit : ℕ
  pub seen : ℕ

-- the host's repository of this number, of which so many accepted writes were seen
abbrev pub wanted_of : HostView → ℕ → ℕ → Wanted
wanted_of host repo seen = record { repo = repo; limit = host.limit; seen = seen }

-- the same by what a writer has seen there
abbrev pub wanted_by : WriterView → ℕ → Wanted
wanted_by w repo = wanted_of w.host repo (slice_index w.seen repo)

-- a lawful state of the wanted repository, of at least as many writes as were seen there
pub record IsSeen (w : Wanted) (s : State) : Type 0 where
  pub lawful : IsLawful s
  pub me_is : s.me ≡ w.repo
  pub limit_is : s.limit ≡ w.limit
  pub long : w.seen ≤ length s.accepted

-- such a state with this root
pub record IsRooted (digest : List ℕ → List ℕ) (bits : ℕ) (w : Wanted) (root : List ℕ) (s : State)
    : Type 0 where
  pub seen : IsSeen w s
  pub root_is : state_root digest bits s ≡ root

-- such a state with another root
abbrev pub HasOtherRoot : (List ℕ → List ℕ) → ℕ → Wanted → List ℕ → Type 0
HasOtherRoot digest bits w root = (s : State) × IsSeen w s × ¬ (state_root digest bits s ≡ root)

-- A core took the batch: it passes its test, the state after it is the one that the batch leaves,
-- and the answer is of that state.
pub record IsTakenBy (digest : List ℕ → List ℕ) (bits : ℕ) (old new : State) (stamp : stamps.Stamp)
    (batch : List writes.Write) (a : Applied) : Type 0 where
  pub passes : state_test old stamp batch ≡ Ok tt
  pub after : new ≡ after_batch old stamp batch
  pub lawful : IsLawful new
  pub applied : IsApplied digest bits old new a

-- the record of a key by a state, and how many writes that has
abbrev pub IsRecordIn : State → List ℕ → ℕ → Option (List ℕ) → Type 0
IsRecordIn s key number found = (number ≡ length s.accepted) × (found ≡ record_at s key)

-- the first pairs from a key on by a state, and how many writes that has
abbrev pub ArePairsIn : (List ℕ → List ℕ) → State → List ℕ → ℕ → ℕ → List Pair → Type 0
ArePairsIn digest s from most number found =
    (number ≡ length s.accepted) × (found ≡ pairs_from digest s from most)

-- the batch was taken after a state that is as P says, and these are the number of writes and the
-- root after it
abbrev pub IsAcceptanceAfter : (List ℕ → List ℕ) → ℕ → (State → Type 0) → stamps.Stamp
    → List writes.Write → ℕ → List ℕ → Type 0
IsAcceptanceAfter digest bits P stamp batch number root = (before : State)
    × P before
    × (state_test before stamp batch ≡ Ok tt)
    × IsLawful (after_batch before stamp batch)
    × (number ≡ length (after_batch before stamp batch).accepted)
    × (root ≡ state_root digest bits (after_batch before stamp batch))

-- the batch was refused after a state that is as P says, at this write with this fault
abbrev pub IsRefusalAfter : {D A : Type 0} → (List ℕ → List ℕ) → ℕ → (State → Type 0) → stamps.Stamp
    → List writes.Write → ℕ × RepoFault D A → Type 0
IsRefusalAfter digest bits P stamp batch e = (before : State) × P before
    × ((full : ℕ) × (fuller : ℕ) × IsRefusal digest bits before stamp batch full fuller e)

-- it was taken after such a state
abbrev pub IsAcceptance : (List ℕ → List ℕ) → ℕ → Wanted → stamps.Stamp → List writes.Write → ℕ
    → List ℕ → Type 0
IsAcceptance digest bits w stamp batch number root =
    IsAcceptanceAfter digest bits (IsSeen w) stamp batch number root

-- the record of a key by such a state, and how many writes that has
abbrev pub IsFound : Wanted → List ℕ → ℕ → Option (List ℕ) → Type 0
IsFound w key number found = (s : State) × IsSeen w s
    × (number ≡ length s.accepted) × (found ≡ record_at s key)

-- the first pairs from a key on by such a state, and how many writes that has
abbrev pub IsListed : (List ℕ → List ℕ) → Wanted → List ℕ → ℕ → ℕ → List Pair → Type 0
IsListed digest w from most number found = (s : State) × IsSeen w s
    × (number ≡ length s.accepted) × (found ≡ pairs_from digest s from most)

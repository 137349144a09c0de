-- What a writer's calls tell and refuse.
use Rattle.std.specs.Prelude.{◌≡◌, ◌≤◌, ◌<◌, ◌-◌, ◌^◌, ◌+◌, ◌%◌, ℕ, List, Option, length}
use Rattle.spec.specs.Tree.{Pair}
use Rattle.spec.specs.States.{State}
use Rattle.batches.specs.Values.{stamp_of, writes_of}
use Rattle.batches.specs.declared.stamp.Stamp.{Stamp}
use Rattle.batches.specs.Write.{Write}
use Rattle.notices.specs.Views.{WasFull}
use Rattle.notices.specs.declared.notice.Notice.{Notice}
use Rattle.ended.specs.Ending.{notices_told}
use Rattle.host.specs.declared.fault.ApplyFromFault.{ApplyFromFault}
use Rattle.host.specs.declared.fault.ApplyFromFault.TheVariants as froms
use Rattle.host.specs.declared.fault.HostFault.{HostFault}
use Rattle.host.specs.declared.fault.HostFault.TheVariants as faults
use Rattle.host.specs.Views.{HostView, WriterView, with_seen}
use Rattle.host.specs.Seeing.{IsAcceptance, IsAcceptanceAfter, IsRefusalAfter, IsSeen, IsFound, IsListed, wanted_by}
use Rattle.host.specs.Rooting.{IsSeenWith, IsSeenWithout}

-- the notices of a writer's accepted calls, in order
abbrev pub told_by_writer : WriterView → List Notice
told_by_writer w = notices_told w.pass w.kept

-- the number of the last accepted call is the greatest one
abbrev pub HasNoNumber : WriterView → Type 0
HasNoNumber w = length (told_by_writer w) ≡ 2 ^ 64 - 1

-- What each fault of a batch says: there is no such repository; the batch is refused after a state
-- that is as P says; want of memory; there is no number for one more accepted call.
abbrev pub IsFaultAfter : {A D X : Type 0} → (List ℕ → List ℕ) → ℕ → (State → Type 0) → WriterView → ℕ
    → Stamp A → List (Write A) → HostFault D X → Type 0
IsFaultAfter digest bits P w repo stamp batch faults.NoSuchRepository = w.host.repos ≤ repo
IsFaultAfter digest bits P w repo stamp batch (faults.Refused place fault) = (repo < w.host.repos)
    × IsRefusalAfter digest bits P (stamp_of stamp) (writes_of batch) (place, fault)
IsFaultAfter digest bits P w repo stamp batch faults.NoMemory = repo < w.host.repos
IsFaultAfter digest bits P w repo stamp batch faults.SeqFull =
    (repo < w.host.repos) × HasNoNumber w

-- that state is a lawful one of this repository and this limit, of at least as many writes as were
-- seen
abbrev pub IsFault : {A D X : Type 0} → (List ℕ → List ℕ) → ℕ → WriterView → ℕ → Stamp A
    → List (Write A) → HostFault D X → Type 0
IsFault digest bits w repo stamp batch fault =
    IsFaultAfter digest bits (IsSeen (wanted_by w repo)) w repo stamp batch fault

-- The same of a batch for a repository of which a root is wanted: such a state has another one; or
-- this fault is that of a state with that root.
abbrev pub IsFaultFrom : {A D X : Type 0} → (List ℕ → List ℕ) → ℕ → WriterView → ℕ → Option (List ℕ)
    → Stamp A → List (Write A) → ApplyFromFault D X → Type 0
IsFaultFrom digest bits w repo root stamp batch froms.OtherRoot = (repo < w.host.repos)
    × IsSeenWithout digest bits (wanted_by w repo) root
IsFaultFrom digest bits w repo root stamp batch (froms.Host fault) = IsFaultAfter digest bits
    (IsSeenWith digest bits (wanted_by w repo) root) w repo stamp batch fault

-- what each fault of a reading call says
abbrev pub IsReadFault : {D A : Type 0} → HostView → ℕ → HostFault D A → Type 0
IsReadFault h repo faults.NoSuchRepository = h.repos ≤ repo
IsReadFault h repo (faults.Refused place fault) = ⊥
IsReadFault h repo faults.NoMemory = repo < h.repos
IsReadFault h repo faults.SeqFull = ⊥

-- the host and the writer's number are as before
pub record IsSame (old new : WriterView) : Type 0 where
  pub host : new.host ≡ old.host
  pub queue : new.pass.queue_id ≡ old.pass.queue_id
  pub writer : new.pass.writer ≡ old.pass.writer

-- the notice is this writer's next one, and of this repository
pub record IsTold (old : WriterView) (repo : ℕ) (n : Notice) : Type 0 where
  pub writer : n.writer ≡ old.pass.writer
  pub seq : n.seq ≡ length (told_by_writer old) + 1
  pub repo_is : n.repo ≡ repo

-- the notice is of a batch that was taken after a lawful state of this repository, of at least as
-- many writes as were seen
abbrev pub IsOfBatch : {A : Type 0} → (List ℕ → List ℕ) → ℕ → WriterView → ℕ → Stamp A
    → List (Write A) → Notice → Type 0
IsOfBatch digest bits w repo stamp batch n =
    IsAcceptance digest bits (wanted_by w repo) (stamp_of stamp) (writes_of batch) n.number n.root

-- the same of a state with the root that is wanted, where one is
abbrev pub IsOfBatchFrom : {A : Type 0} → (List ℕ → List ℕ) → ℕ → WriterView → ℕ → Option (List ℕ)
    → Stamp A → List (Write A) → Notice → Type 0
IsOfBatchFrom digest bits w repo root stamp batch n = IsAcceptanceAfter digest bits
    (IsSeenWith digest bits (wanted_by w repo) root) (stamp_of stamp) (writes_of batch) n.number n.root

-- The record of the key by a lawful state of this repository, of at least as many writes as were
-- seen; and how many it has is what was seen now.
abbrev pub HasFound : WriterView → WriterView → ℕ → List ℕ → Option (List ℕ) → Type 0
HasFound old new repo key found = (number : ℕ)
    × IsFound (wanted_by old repo) key number found
    × (new ≡ with_seen old repo number)

-- the first pairs from a key on, likewise
abbrev pub HasListed : (List ℕ → List ℕ) → WriterView → WriterView → ℕ → List ℕ → ℕ → List Pair
    → Type 0
HasListed digest old new repo from most found = (number : ℕ)
    × IsListed digest (wanted_by old repo) from most number found
    × (new ≡ with_seen old repo number)

-- a notice is kept only where the queue was full, and gave one back
abbrev pub IsPushed : WriterView → WriterView → Type 0
IsPushed old new = 0 < length new.kept
    → WasFull new.host.queue.room new.pass × (new.refused ≡ (old.refused + 1) % 2 ^ 64)

-- where none is kept, the queue gave none back
abbrev pub HasNoneBack : WriterView → WriterView → Type 0
HasNoneBack old new = length new.kept ≡ 0 → new.refused ≡ old.refused

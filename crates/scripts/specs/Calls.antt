-- What a line of a script is answered, and its writer before and after it.
use Rattle.std.specs.Prelude.{◌≡◌, ◌<◌, ◌≤◌, ◌++◌, ℕ, List, [], ◌∷◌, Some, None, ⊤}
use Rattle.host.specs.Telling.{IsFault, IsReadFault, IsPushed, IsSame, IsTold, IsOfBatch, HasFound}
use Rattle.host.specs.Telling.{HasNoneBack, HasNoNumber, told_by_writer}
use Rattle.host.specs.Views.{WriterView, with_seen}
use Rattle.host.specs.declared.fault.HostFault.TheVariants as faults
use Rattle.batches.specs.declared.stamp.Stamp.{Stamp}
use Rattle.batches.specs.Write.{Write}
use Rattle.notices.specs.declared.notice.Notice.{Notice}
use Rattle.scripts.specs.declared.script.Call.{Call}
use Rattle.scripts.specs.declared.script.Call.TheVariants as calls
use Rattle.scripts.specs.declared.script.Answer.{Answer}
use Rattle.scripts.specs.declared.script.Answer.TheVariants as answers

-- The batch was accepted: the notice is the last that was told, and is of this batch, taken after a
-- lawful state of the repository with no fewer writes than were seen there.
pub record IsAccepted {A : Type 0} (digest : List ℕ → List ℕ) (bits : ℕ) (old : WriterView) (repo : ℕ)
    (stamp : Stamp A) (batch : List (Write A)) (n : Notice) (new : WriterView) : Type 0 where
  pub told : told_by_writer new ≡ told_by_writer old ++ n ∷ []
  pub notice : IsTold old repo n
  pub accepted : IsOfBatch digest bits old repo stamp batch n
  pub seen : new.seen ≡ (with_seen old repo n.number).seen
  pub pushed : IsPushed old new
  pub none_back : HasNoneBack old new
  pub same : IsSame old new

-- What each call is answered. A read is right for a lawful state of the repository with no fewer
-- writes than were seen there, and after a refusal the writer is as before.
abbrev pub IsAnswer : {D : Type 0} → (List ℕ → List ℕ) → ℕ → WriterView → ℕ → Call → Answer D
    → WriterView → Type 0
IsAnswer digest bits old repo (calls.Apply stamp batch) (answers.Accepted n) new =
    IsAccepted digest bits old repo stamp batch.items n new
IsAnswer digest bits old repo (calls.Apply stamp batch) (answers.Refused fault) new =
    (new ≡ old) × IsFault digest bits old repo stamp batch.items fault
IsAnswer digest bits old repo (calls.Apply stamp batch) (answers.Found bytes) new = ⊥
IsAnswer digest bits old repo (calls.Apply stamp batch) answers.Absent new = ⊥
IsAnswer digest bits old repo (calls.Get key) (answers.Accepted n) new = ⊥
IsAnswer digest bits old repo (calls.Get key) (answers.Refused fault) new =
    (new ≡ old) × IsReadFault old.host repo fault
IsAnswer digest bits old repo (calls.Get key) (answers.Found bytes) new =
    HasFound old new repo key.items (Some bytes.items)
IsAnswer digest bits old repo (calls.Get key) answers.Absent new =
    HasFound old new repo key.items None

-- a writer without a further number is told so of each batch for a repository that is there
abbrev pub TellsNoNumber : {D : Type 0} → WriterView → ℕ → Call → Answer D → Type 0
TellsNoNumber old repo (calls.Apply stamp batch) answer =
    repo < old.host.repos → HasNoNumber old → answer ≡ answers.Refused faults.SeqFull
TellsNoNumber old repo (calls.Get key) answer = ⊤

-- The answer is that of the call, and it is that there is no such repository wherever there is none,
-- and that there is no number wherever there is none for a batch.
pub record IsCall {D : Type 0} (digest : List ℕ → List ℕ) (bits : ℕ) (old : WriterView) (repo : ℕ)
    (call : Call) (answer : Answer D) (new : WriterView) : Type 0 where
  pub answered : IsAnswer digest bits old repo call answer new
  pub missing : old.host.repos ≤ repo → answer ≡ answers.Refused faults.NoSuchRepository
  pub no_number : TellsNoNumber old repo call answer

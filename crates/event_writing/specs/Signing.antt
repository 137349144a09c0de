-- A batch that is accepted signed, with its message, and why it isn't.
use Rattle.std.specs.Prelude.{◌≡◌, ⊤, ℕ, suc, ◌+◌, cond, true, List, ◌++◌, length, Result, Ok, Err, is_ok}
use Rattle.spec.specs.Reading.{Fails}
use Rattle.spec.specs.Blocks.{IsClashFree, nodes, pairs}
use Rattle.spec.specs.Stamps.{Stamp}
use Rattle.spec.specs.Writes.{Write}
use Rattle.spec.specs.States.{State, after_batch, records, state_blocks, state_root, state_test}
use Rattle.event_laws.specs.Events.{Event}
use Rattle.event_laws.specs.Verdict.{commit_verdict}
use Rattle.event_format.specs.declared.fault.FormFault.TheVariants as forms
use Rattle.event_writing_laws.specs.Telling as telling
use Rattle.event_writing_laws.specs.Telling.{Told}
use Rattle.event_writing_laws.specs.Laws.{blocks_told, checked_batch}
use Rattle.event_writing_laws.specs.Signed.{batch_changes, signed_event, signed_message}
use Rattle.batches.specs.declared.fault.RepoFault.{RepoFault}
use Rattle.batches.specs.declared.fault.RepoFault.TheVariants as faults
use Rattle.repo.specs.BlockFaults.{IsBlockFault}
use Rattle.repo.specs.Fulls.{is_full}
use Rattle.repo.specs.Prepared.{Prepared, state_after}
use Rattle.repo.specs.Refusals.{IsRefusal}
use Rattle.event_writing.specs.Views.{untold_fault_of}
use Rattle.event_writing.specs.declared.fault.UntoldFault.{UntoldFault}
use Rattle.event_writing.specs.declared.fault.UntoldFault.TheVariants as errors
use Rattle.event_writing.specs.declared.signing_fault.SigningFault.{SigningFault}
use Rattle.event_writing.specs.declared.signing_fault.SigningFault.TheVariants as signings

-- a want of memory is told as that, whatever it was wanted for
abbrev pub IsNoWant : {D A : Type 0} → RepoFault D A → Type 0 → Type 0
IsNoWant faults.NoMemory P = ⊥
IsNoWant fault P = P

-- the fault that the message has, which is no want of memory
abbrev pub IsUntold : UntoldFault → Result (List ℕ) telling.UntoldFault → Type 0
IsUntold errors.NoMemory read = ⊥
IsUntold (errors.Form forms.NoMemory) read = ⊥
IsUntold fault read = Fails (untold_fault_of fault) read

-- the store is asked last: where it's full, the batch can be told
abbrev pub IsToldFirst : {D A : Type 0} → RepoFault D A → Result (List ℕ) telling.UntoldFault → Type 0
IsToldFirst faults.StoreFull read = is_ok read ≡ true
IsToldFirst fault read = ⊤

-- The root before is another one; where it isn't, the batch is refused, or passes and can't be told; or memory is wanted.
abbrev pub IsUnsigned : {D A : Type 0} → (List ℕ → List ℕ) → ℕ → State → List ℕ → Stamp → List Write → Told → ℕ → ℕ
    → SigningFault D A → Type 0
IsUnsigned digest bits s previous stamp batch told full fuller signings.RootMoved = ¬ (previous ≡ state_root digest bits s)
IsUnsigned digest bits s previous stamp batch told full fuller (signings.Refused place fault) =
    IsNoWant fault ((previous ≡ state_root digest bits s)
    × IsRefusal digest bits s stamp batch full fuller (place, fault)
    × IsToldFirst fault (signed_message digest bits s stamp batch told))
IsUnsigned digest bits s previous stamp batch told full fuller (signings.Untold fault) =
    (previous ≡ state_root digest bits s) × (state_test s stamp batch ≡ Ok tt)
    × IsUntold fault (signed_message digest bits s stamp batch told)
IsUnsigned digest bits s previous stamp batch told full fuller signings.NoMemory = ⊤

-- Of a batch that was prepared: two blocks clash, of which one is of the repository after it; it can't be told; or memory is
-- wanted.
abbrev pub IsPreparedFault : {D A : Type 0} → (List ℕ → List ℕ) → ℕ → Prepared → Told → SigningFault D A → Type 0
IsPreparedFault digest bits p told signings.RootMoved = ⊥
IsPreparedFault digest bits p told (signings.Refused place fault) =
    IsNoWant fault ((place + 1 ≡ length p.writes) × IsBlockFault digest (state_blocks digest bits (state_after p)) 0 0 fault)
IsPreparedFault digest bits p told (signings.Untold fault) =
    IsUntold fault (signed_message digest bits p.before p.stamp p.writes told)
IsPreparedFault digest bits p told signings.NoMemory = ⊤

-- how often a store has answered that it's full: once more just where the batch is refused so
abbrev pub fulls_after_fault : {D A : Type 0} → ℕ → SigningFault D A → ℕ
fulls_after_fault n signings.RootMoved = n
fulls_after_fault n (signings.Refused place fault) = cond (is_full fault) (suc n) n
fulls_after_fault n (signings.Untold fault) = n
fulls_after_fault n signings.NoMemory = n

abbrev pub fulls_after_signing : {T D A : Type 0} → ℕ → Result T (SigningFault D A) → ℕ
fulls_after_signing n (Ok x) = n
fulls_after_signing n (Err fault) = fulls_after_fault n fault

-- what a refusal of the batch is here
abbrev pub refused_as : {D A : Type 0} → ℕ → RepoFault D A → SigningFault D A
refused_as place faults.NoMemory = signings.NoMemory
refused_as place fault = signings.Refused place fault

-- and what it is that a batch can't be told
abbrev pub unsigned_as : {D A : Type 0} → UntoldFault → SigningFault D A
unsigned_as (errors.Form forms.NoMemory) = signings.NoMemory
unsigned_as errors.NoMemory = signings.NoMemory
unsigned_as fault = signings.Untold fault

-- Whoever has the root before takes the message, and reads it as it was written, where no two of the nodes of the tree after and
-- of the message's blocks clash.
abbrev pub IsSignedTaken : (List ℕ → List ℕ) → ℕ → State → Stamp → List Write → Told → List ℕ → Type 0
IsSignedTaken digest bits s stamp batch told message =
    let m = records (after_batch s stamp batch) in
    let cs = batch_changes digest s batch in
    IsClashFree digest (nodes digest bits (pairs digest m) ++ blocks_told digest bits m stamp cs told)
    → (e : Event) → signed_event digest bits s stamp batch told ≡ Ok e
    → commit_verdict digest bits (state_root digest bits s) message ≡ Ok (checked_batch digest bits m stamp cs told e)

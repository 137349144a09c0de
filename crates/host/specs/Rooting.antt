-- A batch for a repository of which a root is wanted, or none: what a call under its lock answers.
use Rattle.std.specs.Prelude.{◌≡◌, ⊤, ℕ, suc, cond, List, Option, Some, None, Result, Ok, Err}
use Rattle.spec.specs.Stamps as stamps
use Rattle.spec.specs.Writes as writes
use Rattle.spec.specs.States.{State, state_root}
use Rattle.batches.specs.Values.{stamp_of, writes_of}
use Rattle.batches.specs.declared.stamp.Stamp.{Stamp}
use Rattle.batches.specs.Write.{Write}
use Rattle.repo.specs.Fulls.{is_full}
use Rattle.repo.specs.Refusals.{IsRefusal}
use Rattle.repo.specs.declared.applied.Applied.{Applied}
use Rattle.host.specs.Seeing.{IsAcceptanceAfter, IsRefusalAfter, IsRooted, IsSeen, Wanted}
use Rattle.host.specs.declared.fault.ApplyFromFault.{ApplyFromFault}
use Rattle.host.specs.declared.fault.ApplyFromFault.TheVariants as froms
use Rattle.host.specs.declared.fault.HostFault.{HostFault}
use Rattle.host.specs.declared.fault.HostFault.TheVariants as faults

-- a state has the root that is wanted of it, where one is
abbrev pub HasRoot : (List ℕ → List ℕ) → ℕ → Option (List ℕ) → State → Type 0
HasRoot digest bits None s = ⊤
HasRoot digest bits (Some root) s = state_root digest bits s ≡ root

-- a lawful state of the wanted repository, with that root
abbrev pub IsSeenWith : (List ℕ → List ℕ) → ℕ → Wanted → Option (List ℕ) → State → Type 0
IsSeenWith digest bits w None s = IsSeen w s
IsSeenWith digest bits w (Some root) s = IsRooted digest bits w root s

-- a lawful state of it has another root
abbrev pub IsSeenWithout : (List ℕ → List ℕ) → ℕ → Wanted → Option (List ℕ) → Type 0
IsSeenWithout digest bits w root = (s : State) × IsSeen w s × ¬ (HasRoot digest bits root s)

-- ---- one core

-- why a core in a state, of which that root is wanted, doesn't take a batch
abbrev pub IsUntakenBy : {D A : Type 0} → (List ℕ → List ℕ) → ℕ → State → Option (List ℕ)
    → stamps.Stamp → List writes.Write → ℕ → ℕ → ApplyFromFault D A → Type 0
IsUntakenBy digest bits s root stamp batch full fuller froms.OtherRoot = ¬ (HasRoot digest bits root s)
IsUntakenBy digest bits s root stamp batch full fuller (froms.Host (faults.Refused place fault)) =
    HasRoot digest bits root s × IsRefusal digest bits s stamp batch full fuller (place, fault)
IsUntakenBy digest bits s root stamp batch full fuller (froms.Host faults.NoSuchRepository) = ⊥
IsUntakenBy digest bits s root stamp batch full fuller (froms.Host faults.NoMemory) = ⊥
IsUntakenBy digest bits s root stamp batch full fuller (froms.Host faults.SeqFull) = ⊥

-- how often a store has answered that it's full: once more just where the batch is refused so
abbrev pub fulls_after_host : {D A : Type 0} → ℕ → HostFault D A → ℕ
fulls_after_host n (faults.Refused place fault) = cond (is_full fault) (suc n) n
fulls_after_host n fault = n

abbrev pub fulls_after_fault : {D A : Type 0} → ℕ → ApplyFromFault D A → ℕ
fulls_after_fault n froms.OtherRoot = n
fulls_after_fault n (froms.Host fault) = fulls_after_host n fault

abbrev pub fulls_after_call : {T D A : Type 0} → ℕ → Result T (ApplyFromFault D A) → ℕ
fulls_after_call n (Ok x) = n
fulls_after_call n (Err fault) = fulls_after_fault n fault

-- ---- what a host answers

-- the batch was taken after such a state with that root
abbrev pub IsTaken : {A : Type 0} → (List ℕ → List ℕ) → ℕ → Wanted → Option (List ℕ) → Stamp A
    → List (Write A) → Applied → Type 0
IsTaken digest bits w root stamp batch a = IsAcceptanceAfter digest bits (IsSeenWith digest bits w root)
    (stamp_of stamp) (writes_of batch) a.number a.root

-- it was not: such a state has another root, or it was refused after one with that root
abbrev pub IsUntaken : {A D X : Type 0} → (List ℕ → List ℕ) → ℕ → Wanted → Option (List ℕ) → Stamp A
    → List (Write A) → ApplyFromFault D X → Type 0
IsUntaken digest bits w root stamp batch froms.OtherRoot = IsSeenWithout digest bits w root
IsUntaken digest bits w root stamp batch (froms.Host (faults.Refused place fault)) =
    IsRefusalAfter digest bits (IsSeenWith digest bits w root) (stamp_of stamp) (writes_of batch)
    (place, fault)
IsUntaken digest bits w root stamp batch (froms.Host faults.NoSuchRepository) = ⊥
IsUntaken digest bits w root stamp batch (froms.Host faults.NoMemory) = ⊥
IsUntaken digest bits w root stamp batch (froms.Host faults.SeqFull) = ⊥

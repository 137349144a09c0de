-- Exports and proofs of a repository: each is right for a lawful state of this repository.
use Rattle.std.specs.Prelude.{◌≡◌, ◌≤◌, ◌<◌, ℕ, List, Result, Ok, Err, IfOk}
use Rattle.std.specs.declared.sync.Arc.{Arc}
use Rattle.spec.specs.States.{State}
use Rattle.export.specs.Exports.{TakesCar, ArePathOf, car_length}
use Rattle.export.specs.declared.export_fault.ExportFault.{ExportFault}
use Rattle.export.specs.declared.export_fault.ExportFault.TheVariants as exports
use Rattle.host.specs.Seeing.{IsSeen, Wanted, wanted_of}
use Rattle.host.specs.Views.{HostView}
use Rattle.host_exports.specs.declared.fault.CarFault.{CarFault}
use Rattle.host_exports.specs.declared.fault.CarFault.TheVariants as cars
use Rattle.host_exports.specs.declared.fault.ProveFault.{ProveFault}
use Rattle.host_exports.specs.declared.fault.ProveFault.TheVariants as proofs

-- what was taken in the call is the CAR of such a state, or after a fault a beginning of it; and the
-- number is its length
abbrev pub IsCarOf : (List ℕ → List ℕ) → ℕ → Wanted → List ℕ → List ℕ → Result ℕ ExportFault
    → Type 0
IsCarOf digest bits w old new result = (s : State) × IsSeen w s
    × TakesCar digest bits s old new result
    × IfOk result (λ count. count ≡ car_length digest bits s)

-- these are the nodes of the key's path by such a state
abbrev pub IsProofOf : {A : Type 0} → (List ℕ → List ℕ) → ℕ → Wanted → List ℕ
    → List (Arc (List ℕ) A) → Type 0
IsProofOf digest bits w key nodes = (s : State) × IsSeen w s × ArePathOf digest bits s key nodes

-- What a host answers: the CAR of such a state; that there is no such repository, and nothing was
-- written; or a fault, and what was taken is a beginning of the CAR.
abbrev pub IsCarAnswer : (List ℕ → List ℕ) → ℕ → HostView → ℕ → List ℕ → List ℕ → Result ℕ CarFault
    → Type 0
IsCarAnswer digest bits h repo old new (Ok count) = (repo < h.repos)
    × IsCarOf digest bits (wanted_of h repo 0) old new (Ok count)
IsCarAnswer digest bits h repo old new (Err cars.NoSuchRepository) = (h.repos ≤ repo) × (new ≡ old)
IsCarAnswer digest bits h repo old new (Err (cars.Export fault)) = (repo < h.repos)
    × IsCarOf digest bits (wanted_of h repo 0) old new (Err fault)

-- The output failed in the call where `DeviceFault` says so, and nowhere else.
abbrev pub HasCarCause : ℕ → ℕ → Result ℕ CarFault → Type 0
HasCarCause before after (Ok count) = after ≡ before
HasCarCause before after (Err cars.NoSuchRepository) = after ≡ before
HasCarCause before after (Err (cars.Export exports.DeviceFault)) = before < after
HasCarCause before after (Err (cars.Export exports.NoMemory)) = after ≡ before

-- what each fault of a proof says
abbrev pub IsProveFault : HostView → ℕ → ProveFault → Type 0
IsProveFault h repo proofs.NoSuchRepository = h.repos ≤ repo
IsProveFault h repo proofs.NoMemory = repo < h.repos

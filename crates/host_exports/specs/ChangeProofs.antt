-- Proofs of changes of a repository: each is right for a lawful state of this repository with the root that the caller names.
use Rattle.std.specs.Prelude.{◌≡◌, ◌≤◌, ◌<◌, ⊤, ℕ, List}
use Rattle.std.specs.declared.sync.Arc.{Arc}
use Rattle.spec.specs.Blocks.{pairs}
use Rattle.spec.specs.States.{State, records, state_root}
use Rattle.batch_laws.specs.Batch.{Change}
use Rattle.change_laws.specs.Told.{KeyChange}
use Rattle.change_proofs.specs.Provings.{IsProofOf, ShowsChanges, IsUntrue}
use Rattle.change_proofs.specs.StepProvings.{IsStepOf}
use Rattle.change_proofs.specs.declared.proving_fault.ProvingFault.{ProvingFault}
use Rattle.change_proofs.specs.declared.proving_fault.ProvingFault.TheVariants as provings
use Rattle.host.specs.Seeing.{HasOtherRoot, IsRooted, Wanted, wanted_of}
use Rattle.host.specs.Views.{HostView}
use Rattle.host_exports.specs.declared.fault.ProveChangeFault.{ProveChangeFault}
use Rattle.host_exports.specs.declared.fault.ProveChangeFault.TheVariants as steps
use Rattle.host_exports.specs.declared.fault.ProveInversionFault.{ProveInversionFault}
use Rattle.host_exports.specs.declared.fault.ProveInversionFault.TheVariants as inversions

-- ---- a step

-- of the tree of such a state the changes, told with what their keys have there, lead to this root, as these nodes of it show
abbrev pub IsStepFrom : (List ℕ → List ℕ) → ℕ → Wanted → List ℕ → List Change → List ℕ → List KeyChange
    → List (List ℕ) → Type 0
IsStepFrom digest bits w before cs after told nodes = (s : State) × IsRooted digest bits w before s
    × IsStepOf digest bits cs (pairs digest (records s)) after told nodes

-- why a core in a state proves none
abbrev pub IsNoStepIn : (List ℕ → List ℕ) → ℕ → State → List ℕ → ProveChangeFault → Type 0
IsNoStepIn digest bits s before steps.NoSuchRepository = ⊥
IsNoStepIn digest bits s before steps.OtherRoot = ¬ (state_root digest bits s ≡ before)
IsNoStepIn digest bits s before steps.NoMemory = ⊤

-- what each fault says
abbrev pub IsProveChangeFault : (List ℕ → List ℕ) → ℕ → HostView → ℕ → List ℕ → ProveChangeFault → Type 0
IsProveChangeFault digest bits h repo before steps.NoSuchRepository = h.repos ≤ repo
IsProveChangeFault digest bits h repo before steps.OtherRoot = (repo < h.repos)
    × HasOtherRoot digest bits (wanted_of h repo 0) before
IsProveChangeFault digest bits h repo before steps.NoMemory = repo < h.repos

-- ---- changes that are undone

-- these are the nodes that undoing the changes reads in the tree of such a state, and they show them
abbrev pub IsInversionFrom : {A : Type 0} → (List ℕ → List ℕ) → ℕ → Wanted → List ℕ → List KeyChange
    → List (Arc (List ℕ) A) → Type 0
IsInversionFrom digest bits w after cs proof = (s : State) × IsRooted digest bits w after s
    × IsProofOf digest bits s cs proof
    × ShowsChanges digest bits s cs proof

-- by such a state there is no proof
abbrev pub IsUntrueOf : (List ℕ → List ℕ) → ℕ → Wanted → List ℕ → List KeyChange → ProvingFault → Type 0
IsUntrueOf digest bits w after cs fault = (s : State) × IsRooted digest bits w after s × IsUntrue digest s cs fault

-- what a fault of a core is to the caller
abbrev pub of_proving : ProvingFault → ProveInversionFault
of_proving (provings.OtherValue place) = inversions.OtherValue place
of_proving provings.NoMemory = inversions.NoMemory

-- why a core in a state proves none
abbrev pub IsNoInversionIn : (List ℕ → List ℕ) → ℕ → State → List ℕ → List KeyChange → ProveInversionFault → Type 0
IsNoInversionIn digest bits s after cs inversions.NoSuchRepository = ⊥
IsNoInversionIn digest bits s after cs inversions.OtherRoot = ¬ (state_root digest bits s ≡ after)
IsNoInversionIn digest bits s after cs (inversions.OtherValue place) =
    (state_root digest bits s ≡ after) × IsUntrue digest s cs (provings.OtherValue place)
IsNoInversionIn digest bits s after cs inversions.NoMemory = ⊤

-- what each fault says
abbrev pub IsProveInversionFault : (List ℕ → List ℕ) → ℕ → HostView → ℕ → List ℕ → List KeyChange
    → ProveInversionFault → Type 0
IsProveInversionFault digest bits h repo after cs inversions.NoSuchRepository = h.repos ≤ repo
IsProveInversionFault digest bits h repo after cs inversions.OtherRoot = (repo < h.repos)
    × HasOtherRoot digest bits (wanted_of h repo 0) after
IsProveInversionFault digest bits h repo after cs (inversions.OtherValue place) = (repo < h.repos)
    × IsUntrueOf digest bits (wanted_of h repo 0) after cs (provings.OtherValue place)
IsProveInversionFault digest bits h repo after cs inversions.NoMemory = repo < h.repos

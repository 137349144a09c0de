-- Batches that are told before they are accepted: each is told of a lawful state of this repository.
use Rattle.std.specs.Prelude.{◌≡◌, ◌≤◌, ◌<◌, ℕ, List}
use Rattle.spec.specs.Stamps.{Stamp}
use Rattle.spec.specs.States.{State}
use Rattle.spec.specs.Writes.{Write}
use Rattle.batches.specs.declared.fault.RepoFault.{RepoFault}
use Rattle.repo.specs.Prepared.{Prepared, prepared_of}
use Rattle.repo.specs.Refusals.{IsTestRefusal}
use Rattle.host.specs.Seeing.{IsSeen, Wanted, wanted_of}
use Rattle.host.specs.Views.{HostView}
use Rattle.host_exports.specs.declared.fault.PrepareFault.{PrepareFault}
use Rattle.host_exports.specs.declared.fault.PrepareFault.TheVariants as preparations

-- it is this batch on such a state
abbrev pub IsPreparedFrom : Wanted → Stamp → List Write → Prepared → Type 0
IsPreparedFrom w stamp batch prepared = (s : State) × IsSeen w s × (prepared ≡ prepared_of s stamp batch)

-- such a state refuses it at this write with this fault
abbrev pub IsRefusedFrom : {D A : Type 0} → (List ℕ → List ℕ) → ℕ → Wanted → Stamp → List Write
    → ℕ × RepoFault D A → Type 0
IsRefusedFrom digest bits w stamp batch e = (s : State) × IsSeen w s × IsTestRefusal digest bits s stamp batch e

-- why a core in a state tells none
abbrev pub IsUnpreparedIn : {D A : Type 0} → (List ℕ → List ℕ) → ℕ → State → Stamp → List Write → PrepareFault D A
    → Type 0
IsUnpreparedIn digest bits s stamp batch preparations.NoSuchRepository = ⊥
IsUnpreparedIn digest bits s stamp batch (preparations.Refused place fault) =
    IsTestRefusal digest bits s stamp batch (place, fault)

-- what each fault says
abbrev pub IsPrepareFault : {D A : Type 0} → (List ℕ → List ℕ) → ℕ → HostView → ℕ → Stamp → List Write
    → PrepareFault D A → Type 0
IsPrepareFault digest bits h repo stamp batch preparations.NoSuchRepository = h.repos ≤ repo
IsPrepareFault digest bits h repo stamp batch (preparations.Refused place fault) = (repo < h.repos)
    × IsRefusedFrom digest bits (wanted_of h repo 0) stamp batch (place, fault)

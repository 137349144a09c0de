-- Batches that are told, from one core to the host.
use Rattle.std.proofs.Common.{◌≡◌, ◌<◌, ℕ, List}
use Rattle.std.specs.Prelude.{Result, Ok, Err, IfErr, IfOk}
use Rattle.spec.specs.Stamps.{Stamp}
use Rattle.spec.specs.States.{State}
use Rattle.spec.specs.Writes.{Write}
use Rattle.repo.specs.Prepared.{Prepared, prepared_of}
use Rattle.host.specs.Seeing.{IsSeen, Wanted, wanted_of}
use Rattle.host.specs.Views.{HostView}
use Rattle.host_exports.specs.Preparing.{IsPrepareFault, IsPreparedFrom, IsUnpreparedIn}
use Rattle.host_exports.specs.declared.fault.PrepareFault.{PrepareFault}
use Rattle.host_exports.specs.declared.fault.PrepareFault.TheVariants as preparations

-- what a core that is seen tells
pub prepared-from : {T E : Type 0} (w : Wanted) (s : State) (stamp : Stamp) (batch : List Write) (view : T → Prepared) (r : Result T E)
    → IsSeen w s → IfOk r (λ x. view x ≡ prepared_of s stamp batch) → IfOk r (λ x. IsPreparedFrom w stamp batch (view x))
prepared-from w s stamp batch view (Ok x) seen is = (s, seen, is)
prepared-from w s stamp batch view (Err e) seen is = is

-- and why it tells nothing
pub prepare-fault : {D A : Type 0} (digest : List ℕ → List ℕ) (bits : ℕ) (h : HostView) (repo : ℕ) (s : State) (stamp : Stamp)
    (batch : List Write) (fault : PrepareFault D A) → repo < h.repos → IsSeen (wanted_of h repo 0) s
    → IsUnpreparedIn digest bits s stamp batch fault → IsPrepareFault digest bits h repo stamp batch fault
prepare-fault digest bits h repo s stamp batch preparations.NoSuchRepository less seen why = absurd why
prepare-fault digest bits h repo s stamp batch (preparations.Refused place fault) less seen why = (less, (s, seen, why))

pub prepare-faults : {T D A : Type 0} (digest : List ℕ → List ℕ) (bits : ℕ) (h : HostView) (repo : ℕ) (s : State) (stamp : Stamp)
    (batch : List Write) (r : Result T (PrepareFault D A)) → repo < h.repos → IsSeen (wanted_of h repo 0) s
    → IfErr r (IsUnpreparedIn digest bits s stamp batch) → IfErr r (IsPrepareFault digest bits h repo stamp batch)
prepare-faults digest bits h repo s stamp batch (Ok x) less seen why = why
prepare-faults digest bits h repo s stamp batch (Err fault) less seen why = prepare-fault digest bits h repo s stamp batch fault less seen why

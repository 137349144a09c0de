-- A batch that its stamp refuses.
use Rattle.std.proofs.Common.{◌≡◌, ◌<◌, ℕ, zero, suc, false, eqb, List, [], ◌∷◌, length, sym, ap, ◌∙◌, arith, Result, Ok, Err, Option}
use Rattle.spec.specs.Reading.{◌>>=◌}
use Rattle.spec.specs.Writes.{Write, batch_test}
use Rattle.spec.specs.Stamps as stamps
use Rattle.spec.specs.Stamps.{Stamp, StampFault, stamp_test, rev_of, last}
use Rattle.spec.specs.States.{State, OfStamp, state_test, at_first, of_writes}
use Rattle.edit_laws.proofs.StagedBatches.{staged-passes}
use Rattle.batches.specs.Tests.{stamp_fault, IsNamed}
use Rattle.batches.specs.declared.fault.RepoFault.{RepoFault}
use Rattle.batches.specs.declared.fault.RepoFault.TheVariants as faults
use Rattle.repo.specs.Refusals.{IsRefusal}

at-stamp : (s : State) (stamp : Stamp) (batch : List Write) (f : StampFault) → 0 < length batch → stamp_test (rev_of (last s.stamps)) stamp ≡ Err f → state_test s stamp batch ≡ Err (0, OfStamp f)
at-stamp s stamp [] f some e = absurd (omega arith)
at-stamp s stamp (w ∷ ws) f some e = ap (λ (r : Result (Unit {0}) StampFault). at_first r >>= λ (u : Unit {0}). of_writes (batch_test s.limit s.accepted (w ∷ ws))) e

pub stamp-refused : {D A : Type 0} (digest : List ℕ → List ℕ) (bits : ℕ) (s : State) (stamp : Stamp) (batch : List Write) (rev : Option (List ℕ)) (full fuller : ℕ) (fault : RepoFault D A)
    → rev ≡ rev_of (last s.stamps) → 0 < length batch → IsNamed (stamp_test rev stamp) (stamp_fault fault) → IsRefusal digest bits s stamp batch full fuller (0, fault)
stamp-refused digest bits s stamp batch rev full fuller faults.BadDid e some h = at-stamp s stamp batch stamps.BadDid some (ap (λ (r : Option (List ℕ)). stamp_test r stamp) (sym e) ∙ h)
stamp-refused digest bits s stamp batch rev full fuller faults.BadRev e some h = at-stamp s stamp batch stamps.BadRev some (ap (λ (r : Option (List ℕ)). stamp_test r stamp) (sym e) ∙ h)
stamp-refused digest bits s stamp batch rev full fuller faults.RevOrder e some h = at-stamp s stamp batch stamps.RevOrder some (ap (λ (r : Option (List ℕ)). stamp_test r stamp) (sym e) ∙ h)
stamp-refused digest bits s stamp batch rev full fuller (faults.Collision pair) e some h = absurd h
stamp-refused digest bits s stamp batch rev full fuller (faults.BadRecord f) e some h = absurd h
stamp-refused digest bits s stamp batch rev full fuller faults.BadKey e some h = absurd h
stamp-refused digest bits s stamp batch rev full fuller faults.NotAMap e some h = absurd h
stamp-refused digest bits s stamp batch rev full fuller faults.RecordSize e some h = absurd h
stamp-refused digest bits s stamp batch rev full fuller faults.KeyExists e some h = absurd h
stamp-refused digest bits s stamp batch rev full fuller faults.NoSuchKey e some h = absurd h
stamp-refused digest bits s stamp batch rev full fuller faults.WritesFull e some h = absurd h
stamp-refused digest bits s stamp batch rev full fuller faults.StoreFull e some h = absurd h
stamp-refused digest bits s stamp batch rev full fuller faults.NoMemory e some h = absurd h
stamp-refused digest bits s stamp batch rev full fuller faults.EmptyBatch e some h = absurd h

-- ---- one that passes

pub stamped-batch : (s : State) (stamp : Stamp) (batch : List Write) (rev : Option (List ℕ)) → rev ≡ rev_of (last s.stamps) → 0 < length batch
    → stamp_test rev stamp ≡ Ok tt → batch_test s.limit s.accepted batch ≡ Ok tt → state_test s stamp batch ≡ Ok tt
stamped-batch s stamp batch rev e some ok passed = staged-passes s stamp batch some (ap (λ (r : Option (List ℕ)). stamp_test r stamp) (sym e) ∙ ok) passed

pub not-zero : (n : ℕ) → eqb n 0 ≡ false → 0 < n
not-zero zero h = absurd cc
not-zero (suc n) h = omega arith

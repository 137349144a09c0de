-- What a refusal comes to where no test gives it.
use Rattle.std.proofs.Common.{◌≡◌, inl, inr, ℕ, List, Ok, Err, Result, Option, None, sym, ◌∙◌}
use Rattle.std.specs.Prelude.{option_map}
use Rattle.std.specs.declared.option.Option.TheVariants.{Some}
use Rattle.spec.specs.Stamps.{Stamp}
use Rattle.spec.specs.Writes.{Write, BadRecord}
use Rattle.spec.specs.Head.{CborFault as Fault}
use Rattle.spec.specs.States.{State, BatchFault, OfWrite, state_test}
use Rattle.dagcbor.specs.Fault.{cbor_fault_of}
use Rattle.dagcbor.specs.declared.fault.CborFault.{CborFault}
use Rattle.batches.specs.declared.fault.RepoFault.{RepoFault}
use Rattle.batches.specs.declared.fault.RepoFault.TheVariants as faults
use Rattle.repo.specs.Refusals.{IsRefusal, IsRefusalBy}
use Rattle.repo.specs.Refusals.{IsOpenRefusal}
use Rattle.checked_opening.specs.Refusals.{AreRefused, IsBatchRefusal}

-- a test that passes gives no fault
not-both : (r : Result (Unit {0}) (ℕ × BatchFault)) (e : ℕ × BatchFault) → r ≡ Ok tt → r ≡ Err e → ⊥
not-both r e h k = let both : Ok tt ≡ Err e = sym h ∙ k in absurd cc

-- of a record that isn't DAG-CBOR it is a test or nothing
bad-record : (D A : Type 0) (digest : List ℕ → List ℕ) (bits : ℕ) (s : State) (stamp : Stamp) (batch : List Write) (before after place : ℕ) (f : CborFault)
    (named : Option Fault) → state_test s stamp batch ≡ Ok tt
    → IsRefusalBy {D = D} {A = A} digest bits s stamp batch before after place (faults.BadRecord f) (option_map (λ g. OfWrite (BadRecord g)) named) → ⊥
bad-record D A digest bits s stamp batch before after place f None passes h = h
bad-record D A digest bits s stamp batch before after place f (Some g) passes h = not-both (state_test s stamp batch) _ passes h

pub batch-refused : (D A : Type 0) (digest : List ℕ → List ℕ) (bits : ℕ) (s : State) (stamp : Stamp) (batch : List Write) (before after place : ℕ) (fault : RepoFault D A)
    → state_test s stamp batch ≡ Ok tt → IsRefusal digest bits s stamp batch before after (place, fault) → IsBatchRefusal digest bits s stamp batch before after fault
batch-refused D A digest bits s stamp batch before after place (faults.Collision pair) passes h = record { place = place; within = h.0.0; clash = h.1 }
batch-refused D A digest bits s stamp batch before after place faults.StoreFull passes h = h.1
batch-refused D A digest bits s stamp batch before after place faults.NoMemory passes h = tt
batch-refused D A digest bits s stamp batch before after place faults.BadKey passes h = not-both (state_test s stamp batch) _ passes h
batch-refused D A digest bits s stamp batch before after place (faults.BadRecord f) passes h = bad-record D A digest bits s stamp batch before after place f (cbor_fault_of f) passes h
batch-refused D A digest bits s stamp batch before after place faults.NotAMap passes h = not-both (state_test s stamp batch) _ passes h
batch-refused D A digest bits s stamp batch before after place faults.RecordSize passes h = not-both (state_test s stamp batch) _ passes h
batch-refused D A digest bits s stamp batch before after place faults.KeyExists passes h = not-both (state_test s stamp batch) _ passes h
batch-refused D A digest bits s stamp batch before after place faults.NoSuchKey passes h = not-both (state_test s stamp batch) _ passes h
batch-refused D A digest bits s stamp batch before after place faults.WritesFull passes h = not-both (state_test s stamp batch) _ passes h
batch-refused D A digest bits s stamp batch before after place faults.EmptyBatch passes h = not-both (state_test s stamp batch) _ passes h
batch-refused D A digest bits s stamp batch before after place faults.BadDid passes h = not-both (state_test s stamp batch) _ passes h
batch-refused D A digest bits s stamp batch before after place faults.BadRev passes h = not-both (state_test s stamp batch) _ passes h
batch-refused D A digest bits s stamp batch before after place faults.RevOrder passes h = not-both (state_test s stamp batch) _ passes h

-- a refusal of the batch, and one of the empty repository
pub after-opening : {D A : Type 0} (digest : List ℕ → List ℕ) (bits : ℕ) (s : State) (stamp : Stamp) (batch : List Write) (before after : ℕ) (fault : RepoFault D A)
    → IsBatchRefusal digest bits s stamp batch before after fault → AreRefused digest bits s stamp batch before after fault
after-opening digest bits s stamp batch before after (faults.Collision pair) h = inr h
after-opening digest bits s stamp batch before after faults.StoreFull h = h
after-opening digest bits s stamp batch before after faults.NoMemory h = tt
after-opening digest bits s stamp batch before after faults.BadKey h = h
after-opening digest bits s stamp batch before after (faults.BadRecord f) h = h
after-opening digest bits s stamp batch before after faults.NotAMap h = h
after-opening digest bits s stamp batch before after faults.RecordSize h = h
after-opening digest bits s stamp batch before after faults.KeyExists h = h
after-opening digest bits s stamp batch before after faults.NoSuchKey h = h
after-opening digest bits s stamp batch before after faults.WritesFull h = absurd h
after-opening digest bits s stamp batch before after faults.EmptyBatch h = h
after-opening digest bits s stamp batch before after faults.BadDid h = h
after-opening digest bits s stamp batch before after faults.BadRev h = h
after-opening digest bits s stamp batch before after faults.RevOrder h = h

pub open-refused : {D A : Type 0} (digest : List ℕ → List ℕ) (bits : ℕ) (s : State) (stamp : Stamp) (batch : List Write) (before after : ℕ) (fault : RepoFault D A)
    → IsOpenRefusal digest bits s before after fault → AreRefused digest bits s stamp batch before after fault
open-refused digest bits s stamp batch before after (faults.Collision pair) h = inl h
open-refused digest bits s stamp batch before after faults.StoreFull h = h
open-refused digest bits s stamp batch before after faults.NoMemory h = tt
open-refused digest bits s stamp batch before after faults.BadKey h = h
open-refused digest bits s stamp batch before after (faults.BadRecord f) h = h
open-refused digest bits s stamp batch before after faults.NotAMap h = h
open-refused digest bits s stamp batch before after faults.RecordSize h = h
open-refused digest bits s stamp batch before after faults.KeyExists h = h
open-refused digest bits s stamp batch before after faults.NoSuchKey h = h
open-refused digest bits s stamp batch before after faults.WritesFull h = absurd h
open-refused digest bits s stamp batch before after faults.EmptyBatch h = h
open-refused digest bits s stamp batch before after faults.BadDid h = h
open-refused digest bits s stamp batch before after faults.BadRev h = h
open-refused digest bits s stamp batch before after faults.RevOrder h = h

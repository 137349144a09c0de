-- Why a batch is refused by the test of a write.
use Rattle.std.proofs.Common.{◌≡◌, ◌<◌, ℕ, List, ◌∷◌, ◌++◌, length, take, sym, ap, ◌∙◌, arith, Result, Ok, Err, Option, None}
use Rattle.std.specs.declared.option.Option.TheVariants.{Some}
use Rattle.std.specs.Prelude.{option_map}
use Rattle.std.proofs.lemmas.List.{length-append}
use Rattle.std.proofs.Math.Seq.{take-append_seam}
use Rattle.spec.specs.Head as head
use Rattle.spec.specs.Writes as writes
use Rattle.spec.specs.Writes.{Write, WriteFault, batch_test}
use Rattle.spec.specs.Stamps.{Stamp, stamp_test, rev_of, last}
use Rattle.spec.specs.States.{State, BatchFault, OfWrite, state_test}
use Rattle.edit_laws.proofs.StagedBatches.{staged-passes, staged-ends}
use Rattle.dagcbor.specs.Fault.{cbor_fault_of}
use Rattle.dagcbor.specs.declared.fault.CborFault.{CborFault}
use Rattle.batches.specs.Tests.{write_fault, IsNamed, IsTestFault}
use Rattle.batches.specs.declared.fault.RepoFault.{RepoFault}
use Rattle.batches.specs.declared.fault.RepoFault.TheVariants as faults
use Rattle.repo.specs.Refusals.{PassesBefore, IsRefusal, IsRefusalBy, next_test}
use Rattle.repo.specs.Tested.{IsFailedWrite}

module _ (digest : List ℕ → List ℕ) (bits : ℕ) (s : State) (stamp : Stamp) (batch before after : List Write) (w : Write) (i : ℕ)
    (stamped : stamp_test (rev_of (last s.stamps)) stamp ≡ Ok tt) (whole : batch ≡ before ++ w ∷ after) (place : length before ≡ i)
    (passed : batch_test s.limit s.accepted before ≡ Ok tt) where
  here-first : take i batch ≡ before
  here-first = ap (λ n. take n batch) (sym place) ∙ ap (take (length before)) whole ∙ take-append_seam before (w ∷ after)

  within : i < length batch
  within = let l = length-append before (w ∷ after) in let e = ap (λ (xs : List Write). length xs) whole in omega (arith, l, e, place)

  before-pass : PassesBefore s stamp batch i
  before-pass = (within, λ h. ap (state_test s stamp) here-first ∙ staged-passes s stamp before (omega (arith, h, place)) stamped passed)

  fails : (f : WriteFault) → next_test s before w ≡ Err f → state_test s stamp batch ≡ Err (i, OfWrite f)
  fails f h =
      ap (state_test s stamp) whole ∙ staged-ends s stamp before after w f stamped passed h
      ∙ ap (λ n. wrong n f) place
    where
      wrong : ℕ → WriteFault → Result (Unit {0}) (ℕ × BatchFault)
      wrong n f = Err (n, OfWrite f)

  bad-record : (D A : Type 0) (full fuller : ℕ) (e : CborFault) (o : Option head.CborFault)
      → IsNamed (next_test s before w) (option_map writes.BadRecord o)
      → IsRefusalBy {D = D} {A = A} digest bits s stamp batch full fuller i (faults.BadRecord e) (option_map (λ g. OfWrite (writes.BadRecord g)) o)
  bad-record D A full fuller e None h = h
  bad-record D A full fuller e (Some f) h = fails (writes.BadRecord f) h

  write-refused : {D A : Type 0} (full fuller : ℕ) (fault : RepoFault D A) → IsTestFault write_fault (next_test s before w) fault
      → IsRefusal digest bits s stamp batch full fuller (i, fault)
  write-refused {D} {A} full fuller faults.NoMemory h = before-pass
  write-refused {D} {A} full fuller (faults.BadRecord e) h = bad-record D A full fuller e (cbor_fault_of e) h
  write-refused {D} {A} full fuller faults.BadKey h = fails writes.BadKey h
  write-refused {D} {A} full fuller faults.NotAMap h = fails writes.NotAMap h
  write-refused {D} {A} full fuller faults.RecordSize h = fails writes.RecordSize h
  write-refused {D} {A} full fuller faults.KeyExists h = fails writes.KeyExists h
  write-refused {D} {A} full fuller faults.NoSuchKey h = fails writes.NoSuchKey h
  write-refused {D} {A} full fuller faults.WritesFull h = fails writes.WritesFull h
  write-refused {D} {A} full fuller (faults.Collision pair) h = absurd h
  write-refused {D} {A} full fuller faults.StoreFull h = absurd h
  write-refused {D} {A} full fuller faults.EmptyBatch h = absurd h
  write-refused {D} {A} full fuller faults.BadDid h = absurd h
  write-refused {D} {A} full fuller faults.BadRev h = absurd h
  write-refused {D} {A} full fuller faults.RevOrder h = absurd h

pub failed-write : {D A : Type 0} (digest : List ℕ → List ℕ) (bits : ℕ) (s : State) (stamp : Stamp) (batch : List Write) (rev : Option (List ℕ)) (full fuller : ℕ) (e : ℕ × RepoFault D A)
    → rev ≡ rev_of (last s.stamps) → stamp_test rev stamp ≡ Ok tt → IsFailedWrite s batch e → IsRefusal digest bits s stamp batch full fuller e
failed-write digest bits s stamp batch rev full fuller e r ok h =
    write-refused digest bits s stamp batch h.before h.after h.here e.0 (ap (λ (x : Option (List ℕ)). stamp_test x stamp) (sym r) ∙ ok) h.whole h.place h.passed full fuller e.1 h.fault

-- What a taken difference is, and what a refusal of it.
use Rattle.std.proofs.Common.{◌≡◌, ℕ, suc, cond, List, true, refl, sym, ap, subst, ◌∙◌, Option, None, Ok}
use Rattle.spec.specs.Cid.{IsDigest}
use Rattle.spec.specs.Blocks.{pairs, root}
use Rattle.spec.specs.Stamps.{Stamp}
use Rattle.spec.specs.Writes.{Write}
use Rattle.spec.specs.States.{State, IsLawful, after_batch, records, state_root}
use Rattle.key_changes.specs.Keyed.{are_changes}
use Rattle.key_changes.proofs.Ascending.{are-keyed}
use Rattle.change_laws.specs.Told.{KeyChange, undone}
use Rattle.block.specs.Writes.{writes_of}
use Rattle.block.specs.declared.write.Write.{Write as Written}
use Rattle.batches.specs.declared.fault.RepoFault.{RepoFault}
use Rattle.batches.specs.declared.fault.RepoFault.TheVariants as faults
use Rattle.repo.specs.Fulls.{is_full}
use Rattle.repo.specs.Refusals.{IsRefusal}
use Rattle.difference_taking.specs.Writing.{batch_of}
use Rattle.difference_taking.specs.Taking.{DifferOnlyBy, HasRootOfOthers, had_but, had_in}
use Rattle.difference_taking.specs.Refusals.{IsMissing, IsRefused, WithBatch, fulls_after_fault, refused_as}
use Rattle.difference_taking.specs.declared.fault.TakingFault.{TakingFault}
use Rattle.difference_taking.specs.declared.fault.TakingFault.TheVariants as takings
use Rattle.difference_taking.proofs.Leading.{differ-after, others-are}
use Rattle.difference_taking.proofs.Having.{had-all}

-- ---- what was found on the way

-- the batch that is lent is the one that was made
pub lent-is : {A : Type 0} (digest : List ℕ → List ℕ) (given : List (List ℕ)) (cs : List KeyChange) (made lent : List (Written A))
    → batch_of digest given cs ≡ Ok (writes_of made) → lent ≡ made → batch_of digest given cs ≡ Ok (writes_of lent)
lent-is {A} digest given cs made lent h e = h ∙ ap (λ (ws : List (Written A)). Ok (writes_of ws)) (sym e)

-- no key had another value
pub all-had_it : (digest : List ℕ → List ℕ) (s : State) (cs : List KeyChange) (other : Option ℕ) → had_in digest s cs ≡ had_but other
    → other ≡ None → had_in digest s cs ≡ Ok tt
all-had_it digest s cs other h e = h ∙ ap had_but e

-- ---- what is taken

module _ (digest : List ℕ → List ℕ) (bits : ℕ) (given : List (List ℕ)) (cs : List KeyChange) (keyed : are_changes (undone cs) ≡ true)
    (fits : IsDigest digest) (old new : State) (lawful : IsLawful old) (stamp : Stamp) (batch : List Write)
    (batch_is : batch_of digest given cs ≡ Ok batch) (after : new ≡ after_batch old stamp batch) where
  pub differ-only : had_in digest old cs ≡ Ok tt → DifferOnlyBy digest old new cs
  differ-only had =
      subst (λ (s : State). DifferOnlyBy digest old s cs) (sym after)
      (differ-after digest given cs (are-keyed (undone cs) keyed).ascending fits old lawful stamp batch batch_is
      (had-all (pairs digest (records old)) 0 cs had))

  pub root-of_others : HasRootOfOthers digest bits old new cs
  root-of_others other is d =
      ap (state_root digest bits) after
      ∙ ap (root digest bits)
      (others-are digest given cs (are-keyed (undone cs) keyed).ascending fits old lawful stamp batch batch_is other is d)

-- ---- refusals

module _ {D A : Type 0} (digest : List ℕ → List ℕ) (bits : ℕ) (s : State) (stamp : Stamp) (given : List (List ℕ)) (cs : List KeyChange)
    (full fuller : ℕ) where
  pub missing-refused : (fault : TakingFault D A) → IsMissing digest given cs fault
      → IsRefused digest bits s stamp given cs full fuller fault
  missing-refused (takings.RecordMissing place) h = h
  missing-refused (takings.OtherValue place) h = absurd h
  missing-refused (takings.Refused place fault) h = absurd h
  missing-refused takings.NoMemory h = tt

  module _ (batch : List Write) (batch_is : batch_of digest given cs ≡ Ok batch) (had : had_in digest s cs ≡ Ok tt)
      (place : ℕ) where
    with-batch : (fault : RepoFault D A) → IsRefusal digest bits s stamp batch full fuller (place, fault)
        → WithBatch digest given cs (λ ws. (had_in digest s cs ≡ Ok tt) × IsRefusal digest bits s stamp ws full fuller (place, fault))
    with-batch fault h = record { batch = batch; batch_is = batch_is; holds = (had, h) }

    batch-refused : (fault : RepoFault D A) → IsRefusal digest bits s stamp batch full fuller (place, fault)
        → IsRefused digest bits s stamp given cs full fuller (refused_as place fault)
    batch-refused (faults.Collision pair) h = with-batch (faults.Collision pair) h
    batch-refused faults.StoreFull h = with-batch faults.StoreFull h
    batch-refused faults.NoMemory h = tt
    batch-refused faults.BadKey h = with-batch faults.BadKey h
    batch-refused (faults.BadRecord f) h = with-batch (faults.BadRecord f) h
    batch-refused faults.NotAMap h = with-batch faults.NotAMap h
    batch-refused faults.RecordSize h = with-batch faults.RecordSize h
    batch-refused faults.KeyExists h = with-batch faults.KeyExists h
    batch-refused faults.NoSuchKey h = with-batch faults.NoSuchKey h
    batch-refused faults.WritesFull h = with-batch faults.WritesFull h
    batch-refused faults.EmptyBatch h = with-batch faults.EmptyBatch h
    batch-refused faults.BadDid h = with-batch faults.BadDid h
    batch-refused faults.BadRev h = with-batch faults.BadRev h
    batch-refused faults.RevOrder h = with-batch faults.RevOrder h

    pub refused-is : (fault : RepoFault D A) (told : TakingFault D A) → told ≡ refused_as place fault
        → IsRefusal digest bits s stamp batch full fuller (place, fault) → IsRefused digest bits s stamp given cs full fuller told
    refused-is fault told e h =
        subst (λ (f : TakingFault D A). IsRefused digest bits s stamp given cs full fuller f) (sym e) (batch-refused fault h)

-- ---- what the store answered

pub missing-counted : {D A : Type 0} (digest : List ℕ → List ℕ) (given : List (List ℕ)) (cs : List KeyChange) (n : ℕ)
    (fault : TakingFault D A) → IsMissing digest given cs fault → n ≡ fulls_after_fault n fault
missing-counted digest given cs n (takings.RecordMissing place) h = refl
missing-counted digest given cs n (takings.OtherValue place) h = absurd h
missing-counted digest given cs n (takings.Refused place fault) h = absurd h
missing-counted digest given cs n takings.NoMemory h = refl

refused-counted : {D A : Type 0} (n : ℕ) (place : ℕ) (fault : RepoFault D A)
    → cond (is_full fault) (suc n) n ≡ fulls_after_fault n (refused_as place fault)
refused-counted n place (faults.Collision pair) = refl
refused-counted n place faults.StoreFull = refl
refused-counted n place faults.NoMemory = refl
refused-counted n place faults.BadKey = refl
refused-counted n place (faults.BadRecord f) = refl
refused-counted n place faults.NotAMap = refl
refused-counted n place faults.RecordSize = refl
refused-counted n place faults.KeyExists = refl
refused-counted n place faults.NoSuchKey = refl
refused-counted n place faults.WritesFull = refl
refused-counted n place faults.EmptyBatch = refl
refused-counted n place faults.BadDid = refl
refused-counted n place faults.BadRev = refl
refused-counted n place faults.RevOrder = refl

pub told-counted : {D A : Type 0} (n next place : ℕ) (fault : RepoFault D A) (told : TakingFault D A) → next ≡ cond (is_full fault) (suc n) n
    → told ≡ refused_as place fault → next ≡ fulls_after_fault n told
told-counted n next place fault told h e = h ∙ refused-counted n place fault ∙ sym (ap (fulls_after_fault n) e)

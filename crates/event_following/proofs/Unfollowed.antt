-- What a refusal is.
use Rattle.std.proofs.Common.{◌≡◌, ℕ, Bool, true, false, List, [], refl, sym, ap, subst, ◌∙◌, Ok}
use Rattle.std.specs.Str.{bytes_eq}
use Rattle.std.proofs.lemmas.Slice.Eq.{bytes_eq-Decides}
use Rattle.spec.specs.Reading.{Fails}
use Rattle.spec.specs.Blocks.{pairs, root as root_of}
use Rattle.spec.specs.CarReading.{blocks_of}
use Rattle.spec.specs.States.{State, records, state_root}
use Rattle.batch_laws.specs.Batch.{changed}
use Rattle.change_laws.specs.Told.{KeyChange}
use Rattle.step_laws.specs.Turned.{done}
use Rattle.event_laws.specs.Verdict as verdict
use Rattle.event_laws.specs.Verdict.{Checked, Placed, ordered, ordered_ops, placed_from}
use Rattle.batches.specs.declared.fault.RepoFault.{RepoFault}
use Rattle.batches.specs.declared.fault.RepoFault.TheVariants as faults
use Rattle.repo.specs.Refusals.{IsRefusal}
use Rattle.difference_taking.specs.Refusals as taking
use Rattle.difference_taking.specs.Refusals.{IsRefused, WithBatch}
use Rattle.difference_taking.specs.Taking.{had_in}
use Rattle.difference_taking.specs.declared.fault.TakingFault.{TakingFault}
use Rattle.difference_taking.specs.declared.fault.TakingFault.TheVariants as takings
use Rattle.commit_events.specs.Reading.{told_message}
use Rattle.commit_events.specs.Views.{event_fault_of, HasNoWant}
use Rattle.commit_events.specs.declared.fault.EventFault.{EventFault}
use Rattle.commit_events.specs.declared.fault.EventFault.TheVariants as events
use Rattle.event_following.specs.Following.{led_to, stamp_in}
use Rattle.event_following.specs.Refusals.{AtPlace, HasRecords, IsUnfollowed, WithMessage, WithStep, fulls_after_fault, refused_as, unread_as}
use Rattle.event_following.proofs.Records.{none-missing}
use Rattle.event_following.specs.declared.fault.FollowingFault.{FollowingFault}
use Rattle.event_following.specs.declared.fault.FollowingFault.TheVariants as followings

-- the operations of a message in the order of their keys
abbrev sorted_ops : Checked → List Placed
sorted_ops x = ordered [] (placed_from 0 x.event.ops)

module _ (digest : List ℕ → List ℕ) (bits : ℕ) (s : State) (message : List ℕ) where
  -- the operations lead to another root
  pub other-root : (x : Checked) → told_message digest (state_root digest bits s) message ≡ Ok x → (cs : List KeyChange)
      → cs ≡ ordered_ops x.event.ops → (named : List ℕ) → named ≡ x.commit.root → (t : Bool)
      → t ≡ bytes_eq (root_of digest bits (changed (done cs) (pairs digest (records s)))) named → t ≡ false
      → WithMessage digest bits s message (λ y. ¬ (led_to digest bits s y.event ≡ y.commit.root))
  other-root x read cs same named is t e f = record {
    told = x;
    read = read;
    holds = λ leads.
        let led = ap (λ (us : List KeyChange). root_of digest bits (changed (done us) (pairs digest (records s)))) same in
        let test : true ≡ false = sym ((bytes_eq-Decides _ _).1 (led ∙ leads ∙ sym is)) ∙ sym e ∙ f in
        absurd cc;
  }

  -- it isn't read
  unread-so : (D A : Type 0) (full fuller : ℕ) (fault : EventFault) → HasNoWant fault → Fails (event_fault_of fault) (told_message digest (state_root digest bits s) message)
      → IsUnfollowed {D = D} {A = A} digest bits s message full fuller (unread_as fault)
  unread-so D A full fuller (events.Form f) plain h = (plain, h)
  unread-so D A full fuller (events.DoubledPath place) plain h = (plain, h)
  unread-so D A full fuller events.OtherPrevious plain h = (plain, h)
  unread-so D A full fuller (events.Blocks f) plain h = (plain, h)
  unread-so D A full fuller (events.Change f) plain h = (plain, h)
  unread-so D A full fuller events.NoMemory plain h = tt

module _ {D A : Type 0} (digest : List ℕ → List ℕ) (bits : ℕ) (s : State) (message : List ℕ) (full fuller : ℕ) where
  module _ (x : Checked) (read : told_message digest (state_root digest bits s) message ≡ Ok x) where
    module _ (leads : led_to digest bits s x.event ≡ x.commit.root) (some : ¬ (x.event.ops ≡ [])) where
      -- the batch is refused at one of its writes
      at-place : (i : ℕ) (fault : RepoFault D A)
          → WithBatch digest (blocks_of x.sections) (ordered_ops x.event.ops) (λ batch. (had_in digest s (ordered_ops x.event.ops) ≡ Ok tt)
          × IsRefusal digest bits s (stamp_in x.event) batch full fuller (i, fault))
          → WithStep digest bits s message (λ y. (¬ (y.event.ops ≡ [])) × AtPlace y.event.ops (verdict.place_of (sorted_ops x) i)
          (λ j. WithBatch digest (blocks_of y.sections) (ordered_ops y.event.ops)
          (λ batch. (had_in digest s (ordered_ops y.event.ops) ≡ Ok tt)
          × IsRefusal digest bits s (stamp_in y.event) batch full fuller (j, fault))))
      at-place i fault h =
          record { told = x; read = read; holds = (leads, (some, record { sorted = i; place_is = refl; holds = h })) }

      batch-refused : (i : ℕ) (fault : RepoFault D A)
          → IsRefused digest bits s (stamp_in x.event) (blocks_of x.sections) (ordered_ops x.event.ops) full fuller (takings.Refused i fault)
          → IsUnfollowed digest bits s message full fuller (refused_as (sorted_ops x) (takings.Refused i fault))
      batch-refused i (faults.Collision pair) h = at-place i (faults.Collision pair) h
      batch-refused i faults.StoreFull h = at-place i faults.StoreFull h
      batch-refused i faults.NoMemory h = h
      batch-refused i faults.BadKey h = at-place i faults.BadKey h
      batch-refused i (faults.BadRecord f) h = at-place i (faults.BadRecord f) h
      batch-refused i faults.NotAMap h = at-place i faults.NotAMap h
      batch-refused i faults.RecordSize h = at-place i faults.RecordSize h
      batch-refused i faults.KeyExists h = at-place i faults.KeyExists h
      batch-refused i faults.NoSuchKey h = at-place i faults.NoSuchKey h
      batch-refused i faults.WritesFull h = at-place i faults.WritesFull h
      batch-refused i faults.EmptyBatch h = at-place i faults.EmptyBatch h
      batch-refused i faults.BadDid h = at-place i faults.BadDid h
      batch-refused i faults.BadRev h = at-place i faults.BadRev h
      batch-refused i faults.RevOrder h = at-place i faults.RevOrder h

      refused-so : (fault : TakingFault D A)
          → IsRefused digest bits s (stamp_in x.event) (blocks_of x.sections) (ordered_ops x.event.ops) full fuller fault
          → IsUnfollowed digest bits s message full fuller (refused_as (sorted_ops x) fault)
      refused-so (takings.RecordMissing i) h = tt
      refused-so (takings.OtherValue i) h =
          record { told = x; read = read; holds = (leads, record { sorted = i; place_is = refl; holds = h.holds }) }
      refused-so (takings.Refused i fault) h = batch-refused i fault h
      refused-so takings.NoMemory h = tt

      refused-is : (ds : List Placed) → ds ≡ sorted_ops x → (fault : TakingFault D A) (told : FollowingFault D A) → told ≡ refused_as ds fault
          → IsRefused digest bits s (stamp_in x.event) (blocks_of x.sections) (ordered_ops x.event.ops) full fuller fault
          → IsUnfollowed digest bits s message full fuller told
      refused-is ds same fault told e h =
          subst (λ (f : FollowingFault D A). IsUnfollowed digest bits s message full fuller f)
          (ap (λ (xs : List Placed). refused_as xs fault) (sym same) ∙ sym e) (refused-so fault h)

    -- no record is missing
    has-records : (fault : TakingFault D A)
        → IsRefused digest bits s (stamp_in x.event) (blocks_of x.sections) (ordered_ops x.event.ops) full fuller fault
        → HasRecords fault
    has-records (takings.RecordMissing i) h = none-missing digest (state_root digest bits s) message x read i h
    has-records (takings.OtherValue i) h = tt
    has-records (takings.Refused i fault) h = tt
    has-records takings.NoMemory h = tt

    -- by way of what is lent, the refusal of the batch
    pub refused-lent : (leads : led_to digest bits s x.event ≡ x.commit.root) → ¬ (x.event.ops ≡ []) → (cs : List KeyChange) → cs ≡ ordered_ops x.event.ops
        → (ds : List Placed) → ds ≡ sorted_ops x → (fault : TakingFault D A) (told : FollowingFault D A) → told ≡ refused_as ds fault
        → IsRefused digest bits s (stamp_in x.event) (blocks_of x.sections) cs full fuller fault
        → IsUnfollowed digest bits s message full fuller told
    refused-lent leads some cs same ds is fault told e h =
        refused-is leads some ds is fault told e
        (subst (λ (us : List KeyChange). IsRefused digest bits s (stamp_in x.event) (blocks_of x.sections) us full fuller fault) same h)

    pub has-records-lent : (cs : List KeyChange) → cs ≡ ordered_ops x.event.ops → (fault : TakingFault D A)
        → IsRefused digest bits s (stamp_in x.event) (blocks_of x.sections) cs full fuller fault → HasRecords fault
    has-records-lent cs same fault h =
        has-records fault
        (subst (λ (us : List KeyChange). IsRefused digest bits s (stamp_in x.event) (blocks_of x.sections) us full fuller fault) same h)

  pub unread-is : (fault : EventFault) (told : FollowingFault D A) → told ≡ unread_as fault → HasNoWant fault → (root : List ℕ)
      → root ≡ state_root digest bits s → Fails (event_fault_of fault) (told_message digest root message)
      → IsUnfollowed digest bits s message full fuller told
  unread-is fault told e plain root is h =
      subst (λ (f : FollowingFault D A). IsUnfollowed digest bits s message full fuller f) (sym e)
      (unread-so digest bits s message D A full fuller fault plain (subst (λ (r : List ℕ). Fails (event_fault_of fault) (told_message digest r message)) is h))

counted-so : {D A : Type 0} (n : ℕ) (ds : List Placed) (fault : TakingFault D A)
    → taking.fulls_after_fault n fault ≡ fulls_after_fault n (refused_as ds fault)
counted-so n ds (takings.RecordMissing i) = refl
counted-so n ds (takings.OtherValue i) = refl
counted-so n ds (takings.Refused i fault) = refl
counted-so n ds takings.NoMemory = refl

pub refused-counted : {D A : Type 0} (n next : ℕ) (ds : List Placed) (fault : TakingFault D A) (told : FollowingFault D A)
    → next ≡ taking.fulls_after_fault n fault → told ≡ refused_as ds fault → next ≡ fulls_after_fault n told
refused-counted n next ds fault told h e = h ∙ counted-so n ds fault ∙ sym (ap (fulls_after_fault n) e)

pub unread-counted : {D A : Type 0} (n : ℕ) (fault : EventFault) (told : FollowingFault D A) → told ≡ unread_as fault
    → n ≡ fulls_after_fault n told
unread-counted n (events.Form f) told e = sym (ap (fulls_after_fault n) e)
unread-counted n (events.DoubledPath place) told e = sym (ap (fulls_after_fault n) e)
unread-counted n events.OtherPrevious told e = sym (ap (fulls_after_fault n) e)
unread-counted n (events.Blocks f) told e = sym (ap (fulls_after_fault n) e)
unread-counted n (events.Change f) told e = sym (ap (fulls_after_fault n) e)
unread-counted n events.NoMemory told e = sym (ap (fulls_after_fault n) e)

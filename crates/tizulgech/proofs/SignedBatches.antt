-- What is told of a batch that is accepted signed.
use Rattle.std.proofs.Common.{◌≡◌, ◌≤◌, ◌<◌, ◌+◌, ◌∙◌, ℕ, zero, suc, List, Bool, true, false, refl, sym, ap, subst, arith}
use Rattle.std.specs.Prelude.{length, option_map, Option, Some, None, Result, Ok, Err}
use Rattle.std.specs.Str.{bytes_eq}
use Rattle.sha2.specs.Sha256.{sha256}
use Rattle.spec.specs.Reading.{◌>>=◌, ensure, Fails}
use Rattle.spec.specs.Stamps.{Stamp}
use Rattle.spec.specs.Writes.{Write}
use Rattle.spec.specs.States.{State, BatchFault, state_blocks, state_root, state_test}
use Rattle.store.specs.Shards.{WasFull}
use Rattle.event_laws.specs.Reading as forms
use Rattle.event_format.specs.declared.fault.FormFault.TheVariants as given_forms
use Rattle.event_writing_laws.specs.Signed.{signed_message}
use Rattle.event_writing_laws.specs.Telling as telling
use Rattle.event_writing_laws.specs.Telling.{Told}
use Rattle.batches.specs.declared.fault.RepoFault.{RepoFault}
use Rattle.batches.specs.declared.fault.RepoFault.TheVariants as faults
use Rattle.repo.specs.Fulls.{is_full}
use Rattle.repo.specs.BlockFaults.{IsBlockFault}
use Rattle.repo.specs.Prepared.{Prepared, IsPassed, prepared_of, state_after}
use Rattle.repo.specs.Refusals.{IsOther, IsStoreRefusal, IsTestRefusal}
use Rattle.event_writing.specs.Signing.{IsNoWant, IsPreparedFault, IsUntold}
use Rattle.event_writing.specs.Views.{untold_fault_of}
use Rattle.event_writing.specs.declared.fault.UntoldFault.{UntoldFault}
use Rattle.event_writing.specs.declared.fault.UntoldFault.TheVariants as untolds
use Rattle.event_writing.specs.declared.signing_fault.SigningFault as signings
use Rattle.event_writing.specs.declared.signing_fault.SigningFault.TheVariants as errors
use Rattle.buffers.specs.Answers.{IsHanded}
use Rattle.owned_repo.specs.Owning.{Owned}
use Rattle.tizulgech.specs.Causes.{HasCause}
use Rattle.tizulgech.specs.Numbers.{IsTested, fault_number, is_other}
use Rattle.tizulgech.specs.Messages.{form_told, told_or_want}
use Rattle.tizulgech.specs.SignedBatches.{SigningFault, RootMoved, of_batch, of_message, signing, signing_code, untold_told, IsNoLimit, IsSigned}
use Rattle.tizulgech.proofs.Causes.{no_limit, told_cause}
use Rattle.tizulgech.proofs.Tested.{never-0, tested_code}

-- a fault of a form within one of a message
pub form_in_untold : (told : ℕ × ℕ) (f : Option forms.FormFault) → told ≡ told_or_want form_told f
    → told ≡ told_or_want untold_told (option_map telling.OfForm f)
form_in_untold told None e = e
form_in_untold told (Some f) e = e

-- ---- bytes that have room, and such that haven't

module _ (bytes before room : List ℕ) (size : ℕ) where
  pub handed_small : (code : ℕ) → IsHanded code bytes before room size → length before < length bytes → code ≡ 251
  handed_small code h small = (h.small (λ done. omega (arith, small, h.room_is done))).0

  pub handed_whole : (code : ℕ) → IsHanded code bytes before room size → length bytes ≤ length before → code ≡ 0
  handed_whole zero h room = refl
  handed_whole (suc n) h room = absurd (let small = h.small (λ done. omega (arith, done)) in omega (arith, room, small.1))

-- ---- a store that refuses

module _ (s : State) (stamp : Stamp) (batch : List Write) (full fuller : ℕ) where
  other-told : {D A : Type 0} (place : ℕ) (fault : RepoFault D A) → IsOther sha256 2 s stamp batch full fuller place fault
      → is_other (fault_number fault) ≡ true
  other-told place (faults.Collision pair) h = refl
  other-told place faults.StoreFull h = refl
  other-told place faults.NoMemory h = refl
  other-told place faults.BadKey h = absurd h
  other-told place faults.NotAMap h = absurd h
  other-told place faults.RecordSize h = absurd h
  other-told place faults.KeyExists h = absurd h
  other-told place faults.NoSuchKey h = absurd h
  other-told place faults.WritesFull h = absurd h
  other-told place faults.EmptyBatch h = absurd h
  other-told place faults.BadDid h = absurd h
  other-told place faults.BadRev h = absurd h
  other-told place faults.RevOrder h = absurd h
  other-told place (faults.BadRecord f) h = absurd h

  other-cause : {D A : Type 0} (place : ℕ) (fault : RepoFault D A) → IsOther sha256 2 s stamp batch full fuller place fault
      → (is_full fault ≡ true → WasFull sha256 1048576) → HasCause (fault_number fault)
  other-cause place (faults.Collision pair) h f =
      record { clash = λ _. record { pair = pair; clash = h.1.clash }; full = λ e. absurd (omega (arith, e)) }
  other-cause place faults.StoreFull h f = record { clash = λ e. absurd (omega (arith, e)); full = λ _. f refl }
  other-cause place faults.NoMemory h f = no_limit 255 refl refl
  other-cause place faults.BadKey h f = absurd h
  other-cause place faults.NotAMap h f = absurd h
  other-cause place faults.RecordSize h f = absurd h
  other-cause place faults.KeyExists h f = absurd h
  other-cause place faults.NoSuchKey h f = absurd h
  other-cause place faults.WritesFull h f = absurd h
  other-cause place faults.EmptyBatch h f = absurd h
  other-cause place faults.BadDid h f = absurd h
  other-cause place faults.BadRev h f = absurd h
  other-cause place faults.RevOrder h f = absurd h
  other-cause place (faults.BadRecord e) h f = absurd h

  module _ {D A : Type 0} (place : ℕ) (fault : RepoFault D A) (refusal : IsStoreRefusal sha256 2 s stamp batch full fuller (place, fault))
      (code : ℕ) (is : code ≡ fault_number fault) where
    pub store_other : {P : Type 0} → is_other code ≡ false → P
    store_other other =
        let both : true ≡ false = sym (other-told place fault refusal.other) ∙ subst (λ (n : ℕ). is_other n ≡ false) is other in absurd cc

    pub store_cause : (is_full fault ≡ true → WasFull sha256 1048576) → HasCause code
    store_cause was_full = told_cause code (fault_number fault) is (other-cause place fault refusal.other was_full)

-- ---- what is said of a message

module _ (code place : ℕ) (before room : List ℕ) (size : ℕ) where
  -- nothing is said where no test tells the number
  unsaid : (r : Result (List ℕ) SigningFault) → is_other code ≡ true → IsSigned code place r before room size
  unsaid (Ok m) e = λ other. absurd (let both : true ≡ false = sym e ∙ other in cc)
  unsaid (Err f) e = λ other. absurd (let both : true ≡ false = sym e ∙ other in cc)

  is-other : (number : ℕ) → is_other number ≡ true → code ≡ number → is_other code ≡ true
  is-other number e is = subst (λ (n : ℕ). is_other n ≡ true) (sym is) e

  pub message_signed : (message : List ℕ) (r : Result (List ℕ) telling.UntoldFault) → r ≡ Ok message
      → (is_other code ≡ false → IsHanded code message before room size) → IsSigned code place (of_message r) before room size
  message_signed message r is handed =
      subst (λ (x : Result (List ℕ) telling.UntoldFault). IsSigned code place (of_message x) before room size) (sym is) handed

  -- a batch that can't be told
  fails : (fault : UntoldFault) (r : Result (List ℕ) telling.UntoldFault) → IsUntold fault r → Fails (untold_fault_of fault) r
  fails untolds.NoMemory r h = absurd h
  fails (untolds.Form given_forms.NoMemory) r h = absurd h
  fails untolds.NoBatch r h = h
  fails untolds.BadSeq r h = h
  fails (untolds.OtherValue p) r h = h
  fails (untolds.RecordSize p) r h = h
  fails (untolds.Form given_forms.MessageSize) r h = h
  fails (untolds.Form given_forms.NotCommit) r h = h
  fails (untolds.Form given_forms.NotAMap) r h = h
  fails (untolds.Form given_forms.Rebase) r h = h
  fails (untolds.Form given_forms.TooBig) r h = h
  fails (untolds.Form given_forms.TooManyOps) r h = h
  fails (untolds.Form given_forms.BlocksSize) r h = h
  fails (untolds.Form given_forms.BadDid) r h = h
  fails (untolds.Form given_forms.BadRev) r h = h
  fails (untolds.Form given_forms.BadSince) r h = h
  fails (untolds.Form given_forms.RevOrder) r h = h
  fails (untolds.Form given_forms.BadTime) r h = h
  fails (untolds.Form (given_forms.Cbor f)) r h = h
  fails (untolds.Form (given_forms.BadField f)) r h = h
  fails (untolds.Form (given_forms.BadOp p)) r h = h

  untold : (fault : Option telling.UntoldFault) (r : Result (List ℕ) telling.UntoldFault) → Fails fault r
      → (code, place) ≡ told_or_want untold_told fault → IsSigned code place (of_message r) before room size
  untold None r h told = unsaid (of_message r) (is-other 255 refl (ap (λ (x : ℕ × ℕ). x.0) told))
  untold (Some f) r h told =
      subst (λ (x : Result (List ℕ) telling.UntoldFault). IsSigned code place (of_message x) before room size) (sym h) (λ _. told)

  module _ (p : Prepared) (beside : Told) where
    abbrev message : Result (List ℕ) telling.UntoldFault
    message = signed_message sha256 2 p.before p.stamp p.writes beside

    -- a refusal of what passed its test is one of the blocks
    blocks-other : {D A : Type 0} (P : Type 0) (bs : List (List ℕ)) (fault : RepoFault D A) → IsNoWant fault (P × IsBlockFault sha256 bs 0 0 fault)
        → is_other (fault_number fault) ≡ true
    blocks-other P bs faults.NoMemory h = refl
    blocks-other P bs (faults.Collision pair) h = refl
    blocks-other P bs faults.StoreFull h = refl
    blocks-other P bs (faults.BadRecord f) h = absurd h.1
    blocks-other P bs faults.BadKey h = absurd h.1
    blocks-other P bs faults.NotAMap h = absurd h.1
    blocks-other P bs faults.RecordSize h = absurd h.1
    blocks-other P bs faults.KeyExists h = absurd h.1
    blocks-other P bs faults.NoSuchKey h = absurd h.1
    blocks-other P bs faults.WritesFull h = absurd h.1
    blocks-other P bs faults.EmptyBatch h = absurd h.1
    blocks-other P bs faults.BadDid h = absurd h.1
    blocks-other P bs faults.BadRev h = absurd h.1
    blocks-other P bs faults.RevOrder h = absurd h.1

    blocks-cause : {D A : Type 0} (P : Type 0) (bs : List (List ℕ)) (fault : RepoFault D A) → IsNoWant fault (P × IsBlockFault sha256 bs 0 0 fault)
        → HasCause (fault_number fault)
    blocks-cause P bs faults.NoMemory h = no_limit 255 refl refl
    blocks-cause P bs (faults.Collision pair) h =
        record { clash = λ _. record { pair = pair; clash = h.1.clash }; full = λ e. absurd (omega (arith, e)) }
    blocks-cause P bs faults.StoreFull h = absurd (omega (arith, h.1))
    blocks-cause P bs (faults.BadRecord f) h = absurd h.1
    blocks-cause P bs faults.BadKey h = absurd h.1
    blocks-cause P bs faults.NotAMap h = absurd h.1
    blocks-cause P bs faults.RecordSize h = absurd h.1
    blocks-cause P bs faults.KeyExists h = absurd h.1
    blocks-cause P bs faults.NoSuchKey h = absurd h.1
    blocks-cause P bs faults.WritesFull h = absurd h.1
    blocks-cause P bs faults.EmptyBatch h = absurd h.1
    blocks-cause P bs faults.BadDid h = absurd h.1
    blocks-cause P bs faults.BadRev h = absurd h.1
    blocks-cause P bs faults.RevOrder h = absurd h.1

    module _ {D A : Type 0} where
      pub prepared_fault : (fault : signings.SigningFault D A) → IsPreparedFault sha256 2 p beside fault → (code, place) ≡ signing_code fault
          → IsSigned code place (of_message message) before room size
      prepared_fault errors.RootMoved h told = absurd h
      prepared_fault (errors.Refused at fault) h told =
          unsaid (of_message message) (is-other (fault_number fault) (blocks-other (at + 1 ≡ length p.writes) (state_blocks sha256 2 (state_after p)) fault h) (ap (λ (x : ℕ × ℕ). x.0) told))
      prepared_fault (errors.Untold fault) h told = untold (untold_fault_of fault) message (fails fault message h) told
      prepared_fault errors.NoMemory h told = unsaid (of_message message) (is-other 255 refl (ap (λ (x : ℕ × ℕ). x.0) told))

      pub prepared_cause : (fault : signings.SigningFault D A) → IsPreparedFault sha256 2 p beside fault → (code, place) ≡ signing_code fault
          → IsNoLimit fault code → HasCause code
      prepared_cause errors.RootMoved h told n = no_limit code n.0 n.1
      prepared_cause (errors.Refused at fault) h told n =
          told_cause code (fault_number fault) (ap (λ (x : ℕ × ℕ). x.0) told) (blocks-cause (at + 1 ≡ length p.writes) (state_blocks sha256 2 (state_after p)) fault h)
      prepared_cause (errors.Untold fault) h told n = no_limit code n.0 n.1
      prepared_cause errors.NoMemory h told n = no_limit code n.0 n.1

  -- ---- over the root that was signed over

  module _ (o : Owned) (previous : List ℕ) (stamp : Stamp) (beside : Told) where
    -- after the root
    abbrev rest : Result (List ℕ) SigningFault
    rest = of_batch (state_test o.state stamp o.pending) >>= λ y. of_message (signed_message sha256 2 o.state stamp o.pending beside)

    after : (b : Bool) → bytes_eq (state_root sha256 2 o.state) previous ≡ b
        → IsSigned code place (ensure b RootMoved >>= λ x. rest) before room size
        → IsSigned code place (signing o previous stamp beside) before room size
    after b e h = subst (λ (b : Bool). IsSigned code place (ensure b RootMoved >>= λ x. rest) before room size) (sym e) h

    pub root_moved : bytes_eq (state_root sha256 2 o.state) previous ≡ false → code ≡ 130 → place ≡ 0
        → IsSigned code place (signing o previous stamp beside) before room size
    root_moved e c q = after false e (λ other. subst (λ (n : ℕ). ◌≡◌ {A = ℕ × ℕ} (n, place) (130, 0)) (sym c) (ap (λ (n : ℕ). (130, n)) q))

    by_test : (test : Result (Unit {0}) (ℕ × BatchFault)) (then : Result (List ℕ) SigningFault) → IsTested (code, place) test → (code ≡ 0 → ⊥)
        → IsSigned code place (of_batch test >>= λ y. then) before room size
    by_test (Err f) then t never = t
    by_test (Ok ok) then t never = by (is_other code) refl
      where
        by : (b : Bool) → is_other code ≡ b → IsSigned code place then before room size
        by true e = unsaid then e
        by false e = absurd (never (ap (λ (x : ℕ × ℕ). x.0) (t e)))

    pub batch_refused : {D A : Type 0} (fault : RepoFault D A) → bytes_eq (state_root sha256 2 o.state) previous ≡ true
        → code ≡ fault_number fault → IsTestRefusal sha256 2 o.state stamp o.pending (place, fault)
        → IsSigned code place (signing o previous stamp beside) before room size
    batch_refused fault e is refusal = after true e
        (by_test (state_test o.state stamp o.pending) (of_message (signed_message sha256 2 o.state stamp o.pending beside))
        (tested_code o.state stamp o.pending place fault refusal code is) (λ done. never-0 fault (sym is ∙ done)))

    pub batch_signed : (p : Prepared) → bytes_eq (state_root sha256 2 o.state) previous ≡ true → p ≡ prepared_of o.state stamp o.pending
        → IsPassed p → IsSigned code place (of_message (signed_message sha256 2 p.before p.stamp p.writes beside)) before room size
        → IsSigned code place (signing o previous stamp beside) before room size
    batch_signed p e is passed h = after true e
        (subst (λ (test : Result (Unit {0}) (ℕ × BatchFault)).
        IsSigned code place (of_batch test >>= λ y. of_message (signed_message sha256 2 o.state stamp o.pending beside)) before room size)
        (sym (subst IsPassed is passed).passes)
        (subst (λ (q : Prepared). IsSigned code place (of_message (signed_message sha256 2 q.before q.stamp q.writes beside)) before room size) is h))

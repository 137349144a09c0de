-- A batch that isn't accepted signed, or can't be told.
use Rattle.std.proofs.Common.{◌≡◌, ℕ, ◌+◌, ◌<◌, true, cond, eqb, List, [], length, take, refl, sym, ap, subst, ◌∙◌, Option, Result, Ok, Err, suc, arith}
use Rattle.std.specs.Prelude.{is_ok, not, Bool, false}
use Rattle.std.specs.Str.{bytes_eq}
use Rattle.std.specs.declared.option.Option.TheVariants.{Some}
use Rattle.std.proofs.lemmas.Bool.{eq-eqb}
use Rattle.std.proofs.lemmas.List.{take_all}
use Rattle.std.proofs.lemmas.Slice.Eq.{bytes_eq-Decides}
use Rattle.spec.specs.Reading.{◌>>=◌, Fails}
use Rattle.spec.specs.Blocks.{blocks, repository_root}
use Rattle.spec.specs.Commits.{commit_blocks}
use Rattle.spec.specs.Stamps.{Stamp}
use Rattle.spec.specs.Writes.{Write}
use Rattle.spec.specs.States.{State, after_batch, records, state_blocks, state_root, state_test}
use Rattle.edit_laws.specs.Staged.{records_after}
use Rattle.change_laws.specs.Told.{KeyChange}
use Rattle.batches.specs.declared.fault.RepoFault.{RepoFault}
use Rattle.batches.specs.declared.fault.RepoFault.TheVariants as faults
use Rattle.repo.specs.BlockFaults.{IsBlockFault, IsClashAt}
use Rattle.repo.specs.Fulls.{is_full}
use Rattle.repo.specs.Prepared.{Prepared, IsPassed, prepared_of, state_after}
use Rattle.repo.specs.Refusals.{IsOther, IsRefusal, IsStoreRefusal, IsTestRefusal, PassesTo, blocks_shown}
use Rattle.event_writing_laws.specs.Telling as telling
use Rattle.event_writing_laws.specs.Telling.{Told}
use Rattle.event_writing_laws.specs.Signed.{batch_changes, signed_message}
use Rattle.event_format.specs.declared.fault.FormFault.TheVariants as forms
use Rattle.event_writing.specs.Signing.{IsPreparedFault, IsSignedTaken, IsUnsigned, IsUntold, fulls_after_fault, refused_as, unsigned_as}
use Rattle.event_writing.specs.Steps.{stamped_message}
use Rattle.event_writing.specs.Views.{untold_fault_of}
use Rattle.event_writing.specs.declared.fault.UntoldFault.{UntoldFault}
use Rattle.event_writing.specs.declared.fault.UntoldFault.TheVariants as errors
use Rattle.event_writing.specs.declared.signing_fault.SigningFault.{SigningFault}
use Rattle.event_writing.specs.declared.signing_fault.SigningFault.TheVariants as signings
use Rattle.event_writing.proofs.TakenSigned.{last-after}
use Rattle.event_writing.proofs.WholeMessage.{message-is}

-- ---- the blocks at the last write are those of the repository after

module _ (digest : List ℕ → List ℕ) (bits : ℕ) (s : State) (stamp : Stamp) (batch : List Write) (i : ℕ) (last : i + 1 ≡ length batch) where
  -- with so many writes
  abbrev shown : ℕ → List (List ℕ)
  shown n =
      let m = records_after s (take n batch) in
      blocks digest bits (cond (eqb n (length batch)) (commit_blocks (Some stamp) (repository_root digest bits m)) []) m

  abbrev whole : List Write → List (List ℕ)
  whole ws =
      let m = records_after s ws in
      blocks digest bits (commit_blocks (Some stamp) (repository_root digest bits m)) m

  all : take (length batch) batch ≡ batch
  all = take_all (length batch) batch (omega arith)

  shown-all : shown (length batch) ≡ state_blocks digest bits (after_batch s stamp batch)
  shown-all =
      let m = records_after s (take (length batch) batch) in
      ap (λ t. blocks digest bits (cond t (commit_blocks (Some stamp) (repository_root digest bits m)) []) m)
      (eq-eqb (length batch) (length batch) refl)
      ∙ ap whole all
      ∙ ap (λ (o : Option Stamp). blocks digest bits (commit_blocks o (repository_root digest bits (records_after s batch))) (records_after s batch))
      (sym (last-after s stamp batch))

  shown-last : blocks_shown digest bits s stamp batch i ≡ state_blocks digest bits (after_batch s stamp batch)
  shown-last = ap shown last ∙ shown-all

  passes-last : state_test s stamp batch ≡ Ok tt → PassesTo s stamp batch i
  passes-last passes = (
    omega arith,
    ap (λ (n : ℕ). state_test s stamp (take n batch)) last ∙ ap (state_test s stamp) all ∙ passes,
  )

-- ---- a batch that was prepared

abbrev message : (List ℕ → List ℕ) → ℕ → Prepared → Told → Result (List ℕ) telling.UntoldFault
message digest bits p told = signed_message digest bits p.before p.stamp p.writes told

-- its message in the steps in which it is written
pub steps-are : (digest : List ℕ → List ℕ) (bits : ℕ) (p : Prepared) (told : Told) (stamp : Stamp) (before : List ℕ) (cs : List KeyChange)
    → stamp ≡ p.stamp → before ≡ state_root digest bits p.before → cs ≡ batch_changes digest p.before p.writes
    → message digest bits p told ≡ stamped_message digest bits (records (state_after p)) stamp before cs told
steps-are digest bits p told stamp before cs one two three =
    message-is digest bits (state_after p) (state_root digest bits p.before) (batch_changes digest p.before p.writes) told
    ∙ ap (λ (o : Option Stamp). telling.or_no_batch o >>= (λ x. stamped_message digest bits (records (state_after p)) x (state_root digest bits p.before) (batch_changes digest p.before p.writes) told))
    (last-after p.before p.stamp p.writes)
    ∙ ap (λ (x : Stamp). stamped_message digest bits (records (state_after p)) x (state_root digest bits p.before) (batch_changes digest p.before p.writes) told) (sym one)
    ∙ ap (λ (x : List ℕ). stamped_message digest bits (records (state_after p)) stamp x (batch_changes digest p.before p.writes) told) (sym two)
    ∙ ap (λ (x : List KeyChange). stamped_message digest bits (records (state_after p)) stamp before x told) (sym three)

pub untold-steps : {X : Type 0} (o : Option telling.UntoldFault) {whole steps : Result X telling.UntoldFault} → whole ≡ steps → Fails o steps → Fails o whole
untold-steps o e h = subst (λ r. Fails o r) (sym e) h

module _ (digest : List ℕ → List ℕ) (bits : ℕ) (p : Prepared) (told : Told) where
  untold-so : (D A : Type 0) (fault : UntoldFault) → Fails (untold_fault_of fault) (message digest bits p told)
      → IsPreparedFault {D = D} {A = A} digest bits p told (unsigned_as fault)
  untold-so D A errors.NoBatch h = h
  untold-so D A errors.BadSeq h = h
  untold-so D A (errors.Form forms.MessageSize) h = h
  untold-so D A (errors.Form forms.NotCommit) h = h
  untold-so D A (errors.Form (forms.Cbor f)) h = h
  untold-so D A (errors.Form forms.NotAMap) h = h
  untold-so D A (errors.Form (forms.BadField f)) h = h
  untold-so D A (errors.Form forms.Rebase) h = h
  untold-so D A (errors.Form forms.TooBig) h = h
  untold-so D A (errors.Form forms.TooManyOps) h = h
  untold-so D A (errors.Form forms.BlocksSize) h = h
  untold-so D A (errors.Form forms.BadDid) h = h
  untold-so D A (errors.Form forms.BadRev) h = h
  untold-so D A (errors.Form forms.BadSince) h = h
  untold-so D A (errors.Form forms.RevOrder) h = h
  untold-so D A (errors.Form forms.BadTime) h = h
  untold-so D A (errors.Form (forms.BadOp place)) h = h
  untold-so D A (errors.Form forms.NoMemory) h = tt
  untold-so D A (errors.OtherValue place) h = h
  untold-so D A (errors.RecordSize place) h = h
  untold-so D A errors.NoMemory h = tt

module _ {D A : Type 0} (digest : List ℕ → List ℕ) (bits : ℕ) (p : Prepared) (told : Told) where
  clash-here : (last : ℕ) → last + 1 ≡ length p.writes → (fault : RepoFault D A)
      → IsBlockFault digest (state_blocks digest bits (state_after p)) 0 0 fault
      → IsPreparedFault digest bits p told (refused_as last fault)
  clash-here last at (faults.Collision pair) h = (at, h)
  clash-here last at faults.StoreFull h = (at, h)
  clash-here last at faults.NoMemory h = tt
  clash-here last at faults.BadKey h = (at, h)
  clash-here last at (faults.BadRecord f) h = (at, h)
  clash-here last at faults.NotAMap h = (at, h)
  clash-here last at faults.RecordSize h = (at, h)
  clash-here last at faults.KeyExists h = (at, h)
  clash-here last at faults.NoSuchKey h = (at, h)
  clash-here last at faults.WritesFull h = (at, h)
  clash-here last at faults.EmptyBatch h = (at, h)
  clash-here last at faults.BadDid h = (at, h)
  clash-here last at faults.BadRev h = (at, h)
  clash-here last at faults.RevOrder h = (at, h)

  pub clash-told : (last : ℕ) → last + 1 ≡ length p.writes → (fault : RepoFault D A) (signing : SigningFault D A)
      → signing ≡ refused_as last fault → IsBlockFault digest (state_blocks digest bits (state_after p)) 0 0 fault
      → IsPreparedFault digest bits p told signing
  clash-told last at fault signing e h =
      subst (λ (f : SigningFault D A). IsPreparedFault digest bits p told f) (sym e) (clash-here last at fault h)

  pub want-told : (signing : SigningFault D A) → signing ≡ signings.NoMemory → IsPreparedFault digest bits p told signing
  want-told signing e = subst (λ (f : SigningFault D A). IsPreparedFault digest bits p told f) (sym e) tt

  pub untold-told : (fault : UntoldFault) (signing : SigningFault D A) → signing ≡ unsigned_as fault
      → Fails (untold_fault_of fault) (message digest bits p told) → IsPreparedFault digest bits p told signing
  untold-told fault signing e h =
      subst (λ (f : SigningFault D A). IsPreparedFault digest bits p told f) (sym e) (untold-so digest bits p told D A fault h)

-- ---- a batch that is refused, or can't be told

module _ {D A : Type 0} (digest : List ℕ → List ℕ) (bits : ℕ) (s : State) (previous : List ℕ) (stamp : Stamp) (batch : List Write)
    (told : Told) (same : previous ≡ state_root digest bits s) where
  -- by its tests, before the store is asked
  module _ (full : ℕ) where
    tests-refuse : (place : ℕ) (fault : RepoFault D A) → IsRefusal digest bits s stamp batch full full (place, fault)
        → IsUnsigned digest bits s previous stamp batch told full full (refused_as place fault)
    tests-refuse place (faults.Collision pair) h = (same, h, tt)
    tests-refuse place faults.StoreFull h = let never = h.1 in absurd (omega arith)
    tests-refuse place faults.NoMemory h = tt
    tests-refuse place faults.BadKey h = (same, h, tt)
    tests-refuse place (faults.BadRecord f) h = (same, h, tt)
    tests-refuse place faults.NotAMap h = (same, h, tt)
    tests-refuse place faults.RecordSize h = (same, h, tt)
    tests-refuse place faults.KeyExists h = (same, h, tt)
    tests-refuse place faults.NoSuchKey h = (same, h, tt)
    tests-refuse place faults.WritesFull h = (same, h, tt)
    tests-refuse place faults.EmptyBatch h = (same, h, tt)
    tests-refuse place faults.BadDid h = (same, h, tt)
    tests-refuse place faults.BadRev h = (same, h, tt)
    tests-refuse place faults.RevOrder h = (same, h, tt)

    pub test-refused : (place : ℕ) (fault : RepoFault D A) (signing : SigningFault D A) → signing ≡ refused_as place fault
        → IsTestRefusal digest bits s stamp batch (place, fault)
        → IsUnsigned digest bits s previous stamp batch told full full signing
    test-refused place fault signing e h =
        subst (λ (f : SigningFault D A). IsUnsigned digest bits s previous stamp batch told full full f) (sym e) (tests-refuse place fault (h full))

    unasked-so : (place : ℕ) (fault : RepoFault D A) → IsRefusal digest bits s stamp batch full full (place, fault)
        → full ≡ fulls_after_fault full (refused_as place fault)
    unasked-so place (faults.Collision pair) h = refl
    unasked-so place faults.StoreFull h = let never = h.1 in absurd (omega arith)
    unasked-so place faults.NoMemory h = refl
    unasked-so place faults.BadKey h = refl
    unasked-so place (faults.BadRecord f) h = refl
    unasked-so place faults.NotAMap h = refl
    unasked-so place faults.RecordSize h = refl
    unasked-so place faults.KeyExists h = refl
    unasked-so place faults.NoSuchKey h = refl
    unasked-so place faults.WritesFull h = refl
    unasked-so place faults.EmptyBatch h = refl
    unasked-so place faults.BadDid h = refl
    unasked-so place faults.BadRev h = refl
    unasked-so place faults.RevOrder h = refl

    pub unasked-refused : (place : ℕ) (fault : RepoFault D A) (signing : SigningFault D A) → signing ≡ refused_as place fault
        → IsTestRefusal digest bits s stamp batch (place, fault) → full ≡ fulls_after_fault full signing
    unasked-refused place fault signing e h =
        unasked-so place fault (h full) ∙ ap (λ (f : SigningFault D A). fulls_after_fault full f) (sym e)

    -- its message
    message-refuses : IsPassed (prepared_of s stamp batch) → (signing : SigningFault D A) → IsPreparedFault digest bits (prepared_of s stamp batch) told signing
        → IsUnsigned digest bits s previous stamp batch told full full signing
    message-refuses passed signings.RootMoved h = absurd h
    message-refuses passed (signings.Refused place (faults.Collision pair)) h = (
      same,
      (
        passes-last digest bits s stamp batch place h.0 passed.passes,
        subst (λ (bs : List (List ℕ)). IsClashAt digest bs pair) (sym (shown-last digest bits s stamp batch place h.0)) h.1,
      ),
      tt,
    )
    message-refuses passed (signings.Refused place faults.StoreFull) h = let never = h.1 in absurd (omega arith)
    message-refuses passed (signings.Refused place faults.NoMemory) h = absurd h
    message-refuses passed (signings.Refused place faults.BadKey) h = absurd h.1
    message-refuses passed (signings.Refused place (faults.BadRecord f)) h = absurd h.1
    message-refuses passed (signings.Refused place faults.NotAMap) h = absurd h.1
    message-refuses passed (signings.Refused place faults.RecordSize) h = absurd h.1
    message-refuses passed (signings.Refused place faults.KeyExists) h = absurd h.1
    message-refuses passed (signings.Refused place faults.NoSuchKey) h = absurd h.1
    message-refuses passed (signings.Refused place faults.WritesFull) h = absurd h.1
    message-refuses passed (signings.Refused place faults.EmptyBatch) h = absurd h.1
    message-refuses passed (signings.Refused place faults.BadDid) h = absurd h.1
    message-refuses passed (signings.Refused place faults.BadRev) h = absurd h.1
    message-refuses passed (signings.Refused place faults.RevOrder) h = absurd h.1
    message-refuses passed (signings.Untold fault) h = (same, passed.passes, h)
    message-refuses passed signings.NoMemory h = tt

    pub message-refused : (p : Prepared) → p ≡ prepared_of s stamp batch → IsPassed p → (signing : SigningFault D A)
        → IsPreparedFault digest bits p told signing → IsUnsigned digest bits s previous stamp batch told full full signing
    message-refused p is passed signing h =
        message-refuses (subst IsPassed is passed) signing
        (subst (λ (q : Prepared). IsPreparedFault digest bits q told signing) is h)

    message-unasked : (signing : SigningFault D A) → IsPreparedFault digest bits (prepared_of s stamp batch) told signing → full ≡ fulls_after_fault full signing
    message-unasked signings.RootMoved h = refl
    message-unasked (signings.Refused place (faults.Collision pair)) h = refl
    message-unasked (signings.Refused place faults.StoreFull) h = let never = h.1 in absurd (omega arith)
    message-unasked (signings.Refused place faults.NoMemory) h = refl
    message-unasked (signings.Refused place faults.BadKey) h = refl
    message-unasked (signings.Refused place (faults.BadRecord f)) h = refl
    message-unasked (signings.Refused place faults.NotAMap) h = refl
    message-unasked (signings.Refused place faults.RecordSize) h = refl
    message-unasked (signings.Refused place faults.KeyExists) h = refl
    message-unasked (signings.Refused place faults.NoSuchKey) h = refl
    message-unasked (signings.Refused place faults.WritesFull) h = refl
    message-unasked (signings.Refused place faults.EmptyBatch) h = refl
    message-unasked (signings.Refused place faults.BadDid) h = refl
    message-unasked (signings.Refused place faults.BadRev) h = refl
    message-unasked (signings.Refused place faults.RevOrder) h = refl
    message-unasked (signings.Untold fault) h = refl
    message-unasked signings.NoMemory h = refl

    pub unasked-message : (p : Prepared) → p ≡ prepared_of s stamp batch → (signing : SigningFault D A) → IsPreparedFault digest bits p told signing
        → full ≡ fulls_after_fault full signing
    unasked-message p is signing h = message-unasked signing (subst (λ (q : Prepared). IsPreparedFault digest bits q told signing) is h)

  -- by the store
  module _ (full fuller : ℕ) (message : List ℕ) (made : signed_message digest bits s stamp batch told ≡ Ok message) where
    store-refuses : (place : ℕ) (fault : RepoFault D A) → IsOther digest bits s stamp batch full fuller place fault
        → IsUnsigned digest bits s previous stamp batch told full fuller (refused_as place fault)
    store-refuses place (faults.Collision pair) h = (same, h, tt)
    store-refuses place faults.StoreFull h = (same, h, ap (λ r. is_ok r) made)
    store-refuses place faults.NoMemory h = tt
    store-refuses place faults.BadKey h = absurd h
    store-refuses place (faults.BadRecord f) h = absurd h
    store-refuses place faults.NotAMap h = absurd h
    store-refuses place faults.RecordSize h = absurd h
    store-refuses place faults.KeyExists h = absurd h
    store-refuses place faults.NoSuchKey h = absurd h
    store-refuses place faults.WritesFull h = absurd h
    store-refuses place faults.EmptyBatch h = absurd h
    store-refuses place faults.BadDid h = absurd h
    store-refuses place faults.BadRev h = absurd h
    store-refuses place faults.RevOrder h = absurd h

    pub store-refused : (place : ℕ) (fault : RepoFault D A) (signing : SigningFault D A) → signing ≡ refused_as place fault
        → IsStoreRefusal digest bits s stamp batch full fuller (place, fault)
        → IsUnsigned digest bits s previous stamp batch told full fuller signing
    store-refused place fault signing e h =
        subst (λ (f : SigningFault D A). IsUnsigned digest bits s previous stamp batch told full fuller f) (sym e) (store-refuses place fault h.other)

-- the store has been asked as the batch says
asked-so : {D A : Type 0} (n place : ℕ) (fault : RepoFault D A) → cond (is_full fault) (suc n) n ≡ fulls_after_fault n (refused_as place fault)
asked-so n place (faults.Collision pair) = refl
asked-so n place faults.StoreFull = refl
asked-so n place faults.NoMemory = refl
asked-so n place faults.BadKey = refl
asked-so n place (faults.BadRecord f) = refl
asked-so n place faults.NotAMap = refl
asked-so n place faults.RecordSize = refl
asked-so n place faults.KeyExists = refl
asked-so n place faults.NoSuchKey = refl
asked-so n place faults.WritesFull = refl
asked-so n place faults.EmptyBatch = refl
asked-so n place faults.BadDid = refl
asked-so n place faults.BadRev = refl
asked-so n place faults.RevOrder = refl

pub asked : {D A : Type 0} (n fuller place : ℕ) (fault : RepoFault D A) (signing : SigningFault D A) → signing ≡ refused_as place fault
    → fuller ≡ cond (is_full fault) (suc n) n → fuller ≡ fulls_after_fault n signing
asked n fuller place fault signing e h =
    h ∙ asked-so n place fault ∙ ap (λ (f : SigningFault _ _). fulls_after_fault n f) (sym e)

-- ---- whether the root is the one before

moved-so : (t : Bool) → t ≡ true → true ≡ not t → ⊥
moved-so true e h = absurd cc
moved-so false e h = absurd cc

stays-so : (t : Bool) → false ≡ not t → t ≡ true
stays-so true h = refl
stays-so false h = absurd cc

pub root-moved : (root previous : List ℕ) (t : Bool) → t ≡ not (bytes_eq root previous) → t ≡ true → previous ≡ root → ⊥
root-moved root previous t e h same = moved-so (bytes_eq root previous) ((bytes_eq-Decides root previous).1 (sym same)) (sym h ∙ e)

pub root-stays : (digest : List ℕ → List ℕ) (bits : ℕ) (s : State) (root previous : List ℕ) → root ≡ state_root digest bits s
    → (t : Bool) → t ≡ not (bytes_eq root previous) → t ≡ false → previous ≡ state_root digest bits s
root-stays digest bits s root previous is t e h =
    sym ((bytes_eq-Decides root previous).0 (stays-so (bytes_eq root previous) (sym h ∙ e))) ∙ is

-- ---- what is said of a batch that was prepared is said of the batch

module _ (digest : List ℕ → List ℕ) (bits : ℕ) (s : State) (stamp : Stamp) (batch : List Write) (told : Told) (p : Prepared)
    (is : p ≡ prepared_of s stamp batch) (made : List ℕ) where
  pub signed-of : signed_message digest bits p.before p.stamp p.writes told ≡ Ok made → signed_message digest bits s stamp batch told ≡ Ok made
  signed-of h = subst (λ (q : Prepared). signed_message digest bits q.before q.stamp q.writes told ≡ Ok made) is h

  pub taken-of : IsSignedTaken digest bits p.before p.stamp p.writes told made → IsSignedTaken digest bits s stamp batch told made
  taken-of h = subst (λ (q : Prepared). IsSignedTaken digest bits q.before q.stamp q.writes told made) is h

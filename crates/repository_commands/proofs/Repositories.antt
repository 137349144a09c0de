-- The repository of some puts, from what a repository answers to their batch.
use Rattle.std.proofs.Common.{◌≡◌, ◌<◌, ℕ, arith, List, [], ◌∷◌, true, false, refl, sym, ap, subst, ◌∙◌}
use Rattle.std.specs.Prelude.{Option, Some, None, option_map, Result, Ok, Err, IfErr, IsErrAnd, slice_index}
use Rattle.spec.specs.Reading.{◌>>=◌, Fails}
use Rattle.spec.specs.Head.{CborFault}
use Rattle.spec.specs.Stamps.{Stamp, StampFault, stamp_test, rev_of, last}
use Rattle.spec.specs.Writes.{Write, WriteFault, BadRecord, batch_test}
use Rattle.spec.specs.States.{State, BatchFault, EmptyBatch, OfStamp, OfWrite as OfBatchWrite, at_first, of_writes, state_test}
use Rattle.dagcbor.specs.Fault as cbor
use Rattle.batches.specs.declared.fault.RepoFault.{RepoFault}
use Rattle.batches.specs.declared.fault.RepoFault.TheVariants as faults
use Rattle.repo.specs.Refusals.{IsOther, IsRefusal, IsRefusalBy}
use Rattle.repository_commands.specs.Puts.{Given}
use Rattle.repository_commands.specs.Faults.{Line, OfWrite, text_fault_of}
use Rattle.repository_commands.specs.Refusals.{IsLineFault, IsRefusedAt, IsRefusedLine, is_bad_line, is_want_of_memory, refused}
use Rattle.repository_commands.specs.Texts.{at_its_line, writes_check}
use Rattle.repository_commands.specs.declared.fault.LineFault.{LineFault}
use Rattle.repository_commands.specs.declared.fault.LineFault.TheVariants as lines
use Rattle.repository_commands.specs.declared.fault.TextFault.{TextFault}
use Rattle.repository_commands.specs.declared.fault.TextFault.TheVariants as errors

-- ---- the test of a batch and that of its writes

-- the refusal of a write, if it is one
abbrev refusal_at : ℕ → BatchFault → Result (Unit {0}) (ℕ × WriteFault)
refusal_at i EmptyBatch = Ok tt
refusal_at i (OfStamp f) = Ok tt
refusal_at i (OfBatchWrite f) = Err (i, f)

abbrev refusal : Result (Unit {0}) (ℕ × BatchFault) → Result (Unit {0}) (ℕ × WriteFault)
refusal (Ok ok) = Ok ok
refusal (Err f) = refusal_at f.0 f.1

passed-or-not : {A E : Type 0} (x : A) (f : E) → Ok x ≡ Err f → ⊥
passed-or-not x f e = absurd cc

write-refused : (r : Result (Unit {0}) StampFault) (b : Result (Unit {0}) (ℕ × WriteFault)) (i : ℕ) (f : WriteFault)
    → (at_first r >>= (λ _. of_writes b)) ≡ Err (i, OfBatchWrite f) → b ≡ Err (i, f)
write-refused (Err g) b i f e = absurd (passed-or-not tt (i, f) (ap refusal e))
write-refused (Ok ok) (Ok fine) i f e = absurd cc
write-refused (Ok ok) (Err g) i f e = ap refusal e

pub writes-refused : (s : State) (stamp : Stamp) (ws : List Write) (i : ℕ) (f : WriteFault) → state_test s stamp ws ≡ Err (i, OfBatchWrite f) → batch_test s.limit s.accepted ws ≡ Err (i, f)
writes-refused s stamp [] i f e = absurd (passed-or-not tt (i, f) (ap refusal e))
writes-refused s stamp (w ∷ ws) i f e = write-refused (stamp_test (rev_of (last s.stamps)) stamp) (batch_test s.limit s.accepted (w ∷ ws)) i f e

write-passed : (r : Result (Unit {0}) StampFault) (b : Result (Unit {0}) (ℕ × WriteFault)) → (at_first r >>= (λ _. of_writes b)) ≡ Ok tt → b ≡ Ok tt
write-passed (Err g) b e = absurd cc
write-passed (Ok ok) (Ok fine) e = refl
write-passed (Ok ok) (Err g) e = absurd cc

pub writes-passed : (s : State) (stamp : Stamp) (ws : List Write) → state_test s stamp ws ≡ Ok tt → batch_test s.limit s.accepted ws ≡ Ok tt
writes-passed s stamp [] e = absurd cc
writes-passed s stamp (w ∷ ws) e = write-passed (stamp_test (rev_of (last s.stamps)) stamp) (batch_test s.limit s.accepted (w ∷ ws)) e

-- ---- the writes

-- writes that a repository has taken
pub all_taken : (s : State) (stamp : Stamp) (given : Given) (ws : List Write) → ws ≡ given.writes → state_test s stamp ws ≡ Ok tt → writes_check s given ≡ Ok tt
all_taken s stamp given ws ew e =
    ap (at_its_line given.numbers) (writes-passed s stamp given.writes (subst (λ vs. state_test s stamp vs ≡ Ok tt) ew e))

-- ---- refusals

line-refused_at : (s : State) (stamp : Stamp) (given : Given) (place : ℕ) (f : WriteFault) → state_test s stamp given.writes ≡ Err (place, OfBatchWrite f) → writes_check s given ≡ Err (Line (slice_index given.numbers place) (OfWrite f))
line-refused_at s stamp given place f e = ap (at_its_line given.numbers) (writes-refused s stamp given.writes place f e)

module _ {D A : Type 0} (digest : List ℕ → List ℕ) (s : State) (stamp : Stamp) (given : Given) (full fuller place : ℕ) where
  record-refused : (fault : RepoFault D A) (o : Option CborFault) → IsRefusalBy digest 2 s stamp given.writes full fuller place fault (option_map (λ g. OfBatchWrite (BadRecord g)) o)
      → Fails (option_map (Line (slice_index given.numbers place)) (option_map OfWrite (option_map BadRecord o))) (writes_check s given)
  record-refused fault None e = tt
  record-refused fault (Some f) e = line-refused_at s stamp given place (BadRecord f) e

  refused_fails : (fault : RepoFault D A) → IsRefusal digest 2 s stamp given.writes full fuller (place, fault) → Fails (text_fault_of (refused (slice_index given.numbers place) fault)) (writes_check s given)
  refused_fails faults.BadKey e = line-refused_at s stamp given place _ e
  refused_fails (faults.BadRecord f) e = record-refused (faults.BadRecord f) (cbor.cbor_fault_of f) e
  refused_fails faults.NotAMap e = line-refused_at s stamp given place _ e
  refused_fails faults.RecordSize e = line-refused_at s stamp given place _ e
  refused_fails faults.KeyExists e = line-refused_at s stamp given place _ e
  refused_fails faults.NoSuchKey e = line-refused_at s stamp given place _ e
  refused_fails faults.WritesFull e = line-refused_at s stamp given place _ e
  refused_fails (faults.Collision pair) e = tt
  refused_fails faults.StoreFull e = tt
  refused_fails faults.NoMemory e = tt
  refused_fails faults.EmptyBatch e = tt
  refused_fails faults.BadDid e = tt
  refused_fails faults.BadRev e = tt
  refused_fails faults.RevOrder e = tt

  refusal_of : (ws : List Write) (fault : RepoFault D A) → ws ≡ given.writes → IsRefusal digest 2 s stamp ws full fuller (place, fault)
      → IsRefusal digest 2 s stamp given.writes full fuller (place, fault)
  refusal_of ws fault ew is = subst (λ vs. IsRefusal digest 2 s stamp vs full fuller (place, fault)) ew is

  -- a refusal of the repository is one of the lines' test, or none of a test
  pub refusal_fails : (ws : List Write) (n : ℕ) (fault : RepoFault D A) (f : TextFault D A) → ws ≡ given.writes
      → IsRefusal digest 2 s stamp ws full fuller (place, fault) → n ≡ slice_index given.numbers place → f ≡ refused n fault → Fails (text_fault_of f) (writes_check s given)
  refusal_fails ws n fault f ew is en ef =
      subst (λ h. Fails (text_fault_of h) (writes_check s given)) (sym (ef ∙ ap (λ m. refused m fault) en)) (refused_fails fault (refusal_of ws fault ew is))

  -- the store had answered so or not before
  record-since : (fault : RepoFault D A) (o : Option CborFault) → ((n : ℕ) → IsOther digest 2 s stamp given.writes n fuller place fault → ⊥)
      → IsRefusalBy digest 2 s stamp given.writes full fuller place fault (option_map (λ g. OfBatchWrite (BadRecord g)) o)
      → IsRefusalBy digest 2 s stamp given.writes 0 fuller place fault (option_map (λ g. OfBatchWrite (BadRecord g)) o)
  record-since fault None never e = absurd (never full e)
  record-since fault (Some f) never e = e

  since_new : (fault : RepoFault D A) → IsRefusal digest 2 s stamp given.writes full fuller (place, fault)
      → IsRefusal digest 2 s stamp given.writes 0 fuller (place, fault)
  since_new faults.BadKey e = e
  since_new (faults.BadRecord f) e = record-since (faults.BadRecord f) (cbor.cbor_fault_of f) (λ n h. h) e
  since_new faults.NotAMap e = e
  since_new faults.RecordSize e = e
  since_new faults.KeyExists e = e
  since_new faults.NoSuchKey e = e
  since_new faults.WritesFull e = e
  since_new (faults.Collision pair) e = e
  since_new faults.StoreFull e = let h : full < fuller = e.1 in (e.0, omega arith)
  since_new faults.NoMemory e = e
  since_new faults.EmptyBatch e = e
  since_new faults.BadDid e = e
  since_new faults.BadRev e = e
  since_new faults.RevOrder e = e

  module _ (n : ℕ) (en : n ≡ slice_index given.numbers place) where
    at_line : (fault : RepoFault D A) → is_want_of_memory fault ≡ false → IsRefusal digest 2 s stamp given.writes full fuller (place, fault) → IsRefusedAt digest s stamp given (0 < fuller) n fault
    at_line fault named is = record {
      place = place;
      fulls = fuller;
      number = en;
      refusal = since_new fault is;
      shown = λ h. h;
      named = named;
    }

    refused_line : (fault : RepoFault D A) → IsRefusal digest 2 s stamp given.writes full fuller (place, fault) → IsRefusedLine digest s stamp given (0 < fuller) (refused n fault)
    refused_line faults.NoMemory is = tt
    refused_line faults.BadKey is = at_line faults.BadKey refl is
    refused_line (faults.BadRecord f) is = at_line (faults.BadRecord f) refl is
    refused_line faults.NotAMap is = at_line faults.NotAMap refl is
    refused_line faults.RecordSize is = at_line faults.RecordSize refl is
    refused_line faults.KeyExists is = at_line faults.KeyExists refl is
    refused_line faults.NoSuchKey is = at_line faults.NoSuchKey refl is
    refused_line faults.WritesFull is = at_line faults.WritesFull refl is
    refused_line (faults.Collision pair) is = at_line (faults.Collision pair) refl is
    refused_line faults.StoreFull is = at_line faults.StoreFull refl is
    refused_line faults.EmptyBatch is = at_line faults.EmptyBatch refl is
    refused_line faults.BadDid is = at_line faults.BadDid refl is
    refused_line faults.BadRev is = at_line faults.BadRev refl is
    refused_line faults.RevOrder is = at_line faults.RevOrder refl is

    -- and its line is named
    pub refusal_names : (ws : List Write) (fault : RepoFault D A) (f : TextFault D A) → ws ≡ given.writes → IsRefusal digest 2 s stamp ws full fuller (place, fault)
        → f ≡ refused n fault → IsRefusedLine digest s stamp given (0 < fuller) f
    refusal_names ws fault f ew is ef = subst (λ h. IsRefusedLine digest s stamp given (0 < fuller) h) (sym ef) (refused_line fault (refusal_of ws fault ew is))

-- ---- what follows from a store that has answered that it's full

module _ {D A P Q : Type 0} (digest : List ℕ → List ℕ) (s : State) (stamp : Stamp) (given : Given) (follows : P → Q) where
  line_further : (n : ℕ) (fault : LineFault D A) → IsLineFault digest s stamp given P n fault → IsLineFault digest s stamp given Q n fault
  line_further n lines.BadLine is = tt
  line_further n (lines.BadJson kind path) is = tt
  line_further n lines.OtherValue is = absurd is
  line_further n (lines.Refused fault) is = record {
    place = is.place;
    fulls = is.fulls;
    number = is.number;
    refusal = is.refusal;
    shown = λ h. follows (is.shown h);
    named = is.named;
  }

  further : (e : TextFault D A) → IsRefusedLine digest s stamp given P e → IsRefusedLine digest s stamp given Q e
  further (errors.Line n fault) is = line_further n fault is
  further errors.BadDid is = tt
  further errors.BadRev is = tt
  further errors.BadSig is = tt
  further errors.NothingToSign is = tt
  further (errors.Root f) is = tt
  further (errors.BadBefore f) is = absurd is
  further (errors.BadAfter f) is = absurd is
  further (errors.Proof f) is = tt
  further errors.OtherBefore is = absurd is
  further errors.OtherAfter is = absurd is
  further (errors.Change f) is = absurd is
  further errors.NoMemory is = tt
  further errors.ReadFailed is = tt

  pub further_all : {X : Type 0} (r : Result X (TextFault D A)) → IfErr r (IsRefusedLine digest s stamp given P) → IfErr r (IsRefusedLine digest s stamp given Q)
  further_all (Ok x) is = tt
  further_all (Err e) is = further e is

  -- a fault that is passed on
  pub passed_further : {X : Type 0} (r : Result X (TextFault D A)) (f : TextFault D A) → IsErrAnd r (λ e. e ≡ f)
      → IsRefusedLine digest s stamp given P f → IfErr r (IsRefusedLine digest s stamp given Q)
  passed_further (Ok x) f e is = tt
  passed_further (Err h) f e is = subst (λ (k : TextFault D A). IsRefusedLine digest s stamp given Q k) (sym e) (further f is)

-- ---- a line that is no put

bad_line_named : {D A : Type 0} (digest : List ℕ → List ℕ) (s : State) (stamp : Stamp) (given : Given) (P : Type 0) (f : TextFault D A) → is_bad_line f ≡ true → IsRefusedLine digest s stamp given P f
bad_line_named digest s stamp given P (errors.Line n lines.BadLine) e = tt
bad_line_named digest s stamp given P (errors.Line n (lines.BadJson kind path)) e = tt
bad_line_named digest s stamp given P (errors.Line n (lines.Refused f)) e = absurd cc
bad_line_named digest s stamp given P (errors.Line n lines.OtherValue) e = absurd cc
bad_line_named digest s stamp given P errors.BadDid e = absurd cc
bad_line_named digest s stamp given P errors.BadRev e = absurd cc
bad_line_named digest s stamp given P errors.BadSig e = absurd cc
bad_line_named digest s stamp given P errors.NothingToSign e = absurd cc
bad_line_named digest s stamp given P (errors.Root f) e = absurd cc
bad_line_named digest s stamp given P (errors.BadBefore f) e = absurd cc
bad_line_named digest s stamp given P (errors.BadAfter f) e = absurd cc
bad_line_named digest s stamp given P (errors.Proof f) e = absurd cc
bad_line_named digest s stamp given P errors.OtherBefore e = absurd cc
bad_line_named digest s stamp given P errors.OtherAfter e = absurd cc
bad_line_named digest s stamp given P (errors.Change f) e = absurd cc
bad_line_named digest s stamp given P errors.NoMemory e = tt
bad_line_named digest s stamp given P errors.ReadFailed e = absurd cc

pub bad_line_refused : {X D A : Type 0} (digest : List ℕ → List ℕ) (s : State) (stamp : Stamp) (given : Given) (P : Type 0) (r : Result X (TextFault D A)) → IfErr r (λ e. is_bad_line e ≡ true) → IfErr r (IsRefusedLine digest s stamp given P)
bad_line_refused digest s stamp given P (Ok x) e = tt
bad_line_refused digest s stamp given P (Err f) e = bad_line_named digest s stamp given P f e

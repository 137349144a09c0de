-- What is told of a batch that was tested, and not accepted.
use Rattle.std.proofs.Common.{◌≡◌, ◌∙◌, ℕ, List, true, sym, ap, subst, arith}
use Rattle.std.specs.Prelude.{Result, Ok, Err}
use Rattle.sha2.specs.Sha256.{sha256}
use Rattle.spec.specs.Stamps.{Stamp}
use Rattle.spec.specs.Writes.{Write}
use Rattle.spec.specs.States.{State, BatchFault, state_test}
use Rattle.store.specs.Shards.{WasFull}
use Rattle.dagcbor.specs.declared.fault.CborFault.TheVariants as errors
use Rattle.batches.specs.declared.fault.RepoFault.{RepoFault}
use Rattle.batches.specs.declared.fault.RepoFault.TheVariants as faults
use Rattle.repo.specs.Fulls.{is_full}
use Rattle.repo.specs.Prepared.{Prepared, IsPassed, prepared_of}
use Rattle.repo.specs.Refusals.{IsRefusal, IsTestRefusal}
use Rattle.owned_repo.specs.Owning.{Owned}
use Rattle.tizulgech.specs.Causes.{HasCause}
use Rattle.tizulgech.specs.Numbers.{IsHandedOr255, IsTested, fault_number}
use Rattle.tizulgech.specs.SignedBatches.{IsPreviewed, IsTestedThen, prepared_spelt}
use Rattle.tizulgech.proofs.Causes.{batch_cause, told_cause}
use Rattle.tizulgech.proofs.Filed.{not-255}
use Rattle.tizulgech.proofs.Told.{batch_told}

-- no fault is told as what was done
pub never-0 : {D A : Type 0} (fault : RepoFault D A) → fault_number fault ≡ 0 → ⊥
never-0 faults.BadKey e = omega (arith, e)
never-0 faults.NotAMap e = omega (arith, e)
never-0 faults.RecordSize e = omega (arith, e)
never-0 faults.KeyExists e = omega (arith, e)
never-0 faults.NoSuchKey e = omega (arith, e)
never-0 faults.WritesFull e = omega (arith, e)
never-0 faults.EmptyBatch e = omega (arith, e)
never-0 faults.BadDid e = omega (arith, e)
never-0 faults.BadRev e = omega (arith, e)
never-0 faults.RevOrder e = omega (arith, e)
never-0 (faults.Collision pair) e = omega (arith, e)
never-0 faults.StoreFull e = omega (arith, e)
never-0 faults.NoMemory e = omega (arith, e)
never-0 (faults.BadRecord errors.Truncated) e = omega (arith, e)
never-0 (faults.BadRecord errors.LongHead) e = omega (arith, e)
never-0 (faults.BadRecord errors.Indefinite) e = omega (arith, e)
never-0 (faults.BadRecord errors.BadTag) e = omega (arith, e)
never-0 (faults.BadRecord errors.BadLink) e = omega (arith, e)
never-0 (faults.BadRecord errors.KeyNotText) e = omega (arith, e)
never-0 (faults.BadRecord errors.KeyOrder) e = omega (arith, e)
never-0 (faults.BadRecord errors.BadUtf8) e = omega (arith, e)
never-0 (faults.BadRecord errors.Float) e = omega (arith, e)
never-0 (faults.BadRecord errors.Simple) e = omega (arith, e)
never-0 (faults.BadRecord errors.IntegerRange) e = omega (arith, e)
never-0 (faults.BadRecord errors.TooDeep) e = omega (arith, e)
never-0 (faults.BadRecord errors.Trailing) e = omega (arith, e)
never-0 (faults.BadRecord errors.NoMemory) e = omega (arith, e)

pub never_done : {D A : Type 0} {P : Type 0} (code : ℕ) (fault : RepoFault D A) → code ≡ fault_number fault → code ≡ 0 → P
never_done code fault is done = absurd (never-0 fault (sym is ∙ done))

-- a store that wasn't asked hasn't answered that it's full
never-full : {D A : Type 0} (s : State) (stamp : Stamp) (batch : List Write) (place : ℕ) (fault : RepoFault D A)
    → IsRefusal sha256 2 s stamp batch 0 0 (place, fault) → is_full fault ≡ true → WasFull sha256 1048576
never-full s stamp batch place faults.StoreFull h e = absurd (omega (arith, h.1))
never-full s stamp batch place faults.BadKey h e = absurd cc
never-full s stamp batch place faults.NotAMap h e = absurd cc
never-full s stamp batch place faults.RecordSize h e = absurd cc
never-full s stamp batch place faults.KeyExists h e = absurd cc
never-full s stamp batch place faults.NoSuchKey h e = absurd cc
never-full s stamp batch place faults.WritesFull h e = absurd cc
never-full s stamp batch place faults.EmptyBatch h e = absurd cc
never-full s stamp batch place faults.BadDid h e = absurd cc
never-full s stamp batch place faults.BadRev h e = absurd cc
never-full s stamp batch place faults.RevOrder h e = absurd cc
never-full s stamp batch place faults.NoMemory h e = absurd cc
never-full s stamp batch place (faults.Collision pair) h e = absurd cc
never-full s stamp batch place (faults.BadRecord f) h e = absurd cc

module _ {D A : Type 0} (s : State) (stamp : Stamp) (batch : List Write) (place : ℕ) (fault : RepoFault D A)
    (refusal : IsTestRefusal sha256 2 s stamp batch (place, fault)) where
  -- the number of the test's first fault
  test_told : IsTested (fault_number fault, place) (state_test s stamp batch)
  test_told = batch_told {X = Unit {0}} s stamp batch 0 0 (Err (place, fault)) tt (refusal 0)

  pub test_cause : (code : ℕ) → code ≡ fault_number fault → HasCause code
  test_cause code is = told_cause code (fault_number fault) is
      (batch_cause {X = Unit {0}} s stamp batch 0 0 (Err (place, fault)) (refusal 0) (never-full s stamp batch place fault (refusal 0)))

  pub tested_code : (code : ℕ) → code ≡ fault_number fault → IsTested (code, place) (state_test s stamp batch)
  tested_code code is = subst (λ (n : ℕ). IsTested (n, place) (state_test s stamp batch)) (sym is) test_told

-- what a test tells that wasn't passed
module _ (code place : ℕ) (bytes before room : List ℕ) (size : ℕ) where
  pub refused_then : (test : Result (Unit {0}) (ℕ × BatchFault)) → IsTested (code, place) test → (code ≡ 0 → ⊥)
      → IsTestedThen code place test bytes before room size
  refused_then (Ok ok) t never = λ other. absurd (never (ap (λ (x : ℕ × ℕ). x.0) (t other)))
  refused_then (Err f) t never = t

  pub passed_then : (test : Result (Unit {0}) (ℕ × BatchFault)) → test ≡ Ok tt → IsHandedOr255 code bytes before room size
      → IsTestedThen code place test bytes before room size
  passed_then test passes handed =
      subst (λ (t : Result (Unit {0}) (ℕ × BatchFault)). IsTestedThen code place t bytes before room size) (sym passes) (λ other. handed (not-255 code other))

module _ (o : Owned) (stamp : Stamp) (code place : ℕ) (before room : List ℕ) (size : ℕ) where
  pub refused_preview : {D A : Type 0} (fault : RepoFault D A) → code ≡ fault_number fault
      → IsTestRefusal sha256 2 o.state stamp o.pending (place, fault) → IsPreviewed code place o stamp before room size
  refused_preview fault is refusal =
      refused_then code place (prepared_spelt (prepared_of o.state stamp o.pending)) before room size (state_test o.state stamp o.pending)
      (tested_code o.state stamp o.pending place fault refusal code is) (λ done. never-0 fault (sym is ∙ done))

  pub passed_preview : (p : Prepared) → p ≡ prepared_of o.state stamp o.pending → IsPassed p
      → IsHandedOr255 code (prepared_spelt p) before room size → IsPreviewed code place o stamp before room size
  passed_preview p is passed handed =
      passed_then code place (prepared_spelt (prepared_of o.state stamp o.pending)) before room size (state_test o.state stamp o.pending)
      (subst IsPassed is passed).passes
      (subst (λ (q : Prepared). IsHandedOr255 code (prepared_spelt q) before room size) is handed)

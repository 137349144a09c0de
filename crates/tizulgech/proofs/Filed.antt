-- What is told of the file of a listing.
use Rattle.std.proofs.Common.{◌≡◌, ℕ, List, ◌++◌, Bool, true, false, refl, sym, ap, subst, ◌∙◌, arith}
use Rattle.std.specs.Prelude.{◌||◌, nat_eq, Result, Ok, Err}
use Rattle.sha2.specs.Sha256.{sha256}
use Rattle.spec.specs.Stamps.{Stamp}
use Rattle.spec.specs.Writes.{Write}
use Rattle.spec.specs.States.{State, BatchFault, after_batch, fresh, state_car, state_test}
use Rattle.dagcbor.specs.declared.fault.CborFault.TheVariants as errors
use Rattle.batches.specs.declared.fault.RepoFault.{RepoFault}
use Rattle.batches.specs.declared.fault.RepoFault.TheVariants as faults
use Rattle.repo.specs.Refusals.{IsRefusal}
use Rattle.buffers.specs.Answers.{IsHanded}
use Rattle.owned_repo.specs.Owning.{Owned, applied, opened}
use Rattle.tizulgech.specs.Numbers.{IsHandedOr255, is_other}
use Rattle.tizulgech.specs.Trees.{IsFileOf, batch_number}

-- a test doesn't both fail and pass
never-both : (r : Result (Unit {0}) (ℕ × BatchFault)) (e : ℕ × BatchFault) → r ≡ Err e → r ≡ Ok tt → ⊥
never-both r e fails passes =
    let same : ◌≡◌ {A = Result (Unit {0}) (ℕ × BatchFault)} (Err e) (Ok tt) = sym fails ∙ passes in absurd cc

-- a number that no test gives isn't 32
other-32 : (code : ℕ) → is_other code ≡ true → code ≡ 32 → ⊥
other-32 code other is = let e : is_other 32 ≡ true = subst (λ (n : ℕ). is_other n ≡ true) is other in absurd cc

last-false : (a b c : Bool) → ((a || b) || c) ≡ false → c ≡ false
last-false true b c e = absurd cc
last-false false true c e = absurd cc
last-false false false c e = e

-- and isn't 255
pub not-255 : (code : ℕ) → is_other code ≡ false → nat_eq code 255 ≡ false
not-255 code e = last-false (nat_eq code 253) (nat_eq code 254) (nat_eq code 255) e

-- each number of a fault is 32, or none that a test gives
no-other : {D A : Type 0} (fault : RepoFault D A) → is_other (batch_number fault) ≡ false → nat_eq (batch_number fault) 32 ≡ false → ⊥
no-other faults.BadKey o e = absurd cc
no-other (faults.BadRecord f) o e = absurd cc
no-other faults.NotAMap o e = absurd cc
no-other faults.RecordSize o e = absurd cc
no-other faults.KeyExists o e = absurd cc
no-other faults.NoSuchKey o e = absurd cc
no-other faults.WritesFull o e = absurd cc
no-other (faults.Collision pair) o e = absurd cc
no-other faults.StoreFull o e = absurd cc
no-other faults.NoMemory o e = absurd cc
no-other faults.EmptyBatch o e = absurd cc
no-other faults.BadDid o e = absurd cc
no-other faults.BadRev o e = absurd cc
no-other faults.RevOrder o e = absurd cc

-- where it is 32 the test has failed
fails-test : {D A : Type 0} (s : State) (stamp : Stamp) (ws : List Write) (full fuller place : ℕ) (fault : RepoFault D A)
    → IsRefusal sha256 2 s stamp ws full fuller (place, fault) → batch_number fault ≡ 32 → state_test s stamp ws ≡ Ok tt → ⊥
fails-test s stamp ws full fuller place faults.BadKey h e p = never-both _ _ h p
fails-test s stamp ws full fuller place faults.NotAMap h e p = never-both _ _ h p
fails-test s stamp ws full fuller place faults.RecordSize h e p = never-both _ _ h p
fails-test s stamp ws full fuller place faults.KeyExists h e p = never-both _ _ h p
fails-test s stamp ws full fuller place faults.NoSuchKey h e p = never-both _ _ h p
fails-test s stamp ws full fuller place faults.WritesFull h e p = never-both _ _ h p
fails-test s stamp ws full fuller place faults.EmptyBatch h e p = never-both _ _ h p
fails-test s stamp ws full fuller place faults.BadDid h e p = never-both _ _ h p
fails-test s stamp ws full fuller place faults.BadRev h e p = never-both _ _ h p
fails-test s stamp ws full fuller place faults.RevOrder h e p = never-both _ _ h p
fails-test s stamp ws full fuller place (faults.BadRecord errors.Truncated) h e p = never-both _ _ h p
fails-test s stamp ws full fuller place (faults.BadRecord errors.LongHead) h e p = never-both _ _ h p
fails-test s stamp ws full fuller place (faults.BadRecord errors.Indefinite) h e p = never-both _ _ h p
fails-test s stamp ws full fuller place (faults.BadRecord errors.BadTag) h e p = never-both _ _ h p
fails-test s stamp ws full fuller place (faults.BadRecord errors.BadLink) h e p = never-both _ _ h p
fails-test s stamp ws full fuller place (faults.BadRecord errors.KeyNotText) h e p = never-both _ _ h p
fails-test s stamp ws full fuller place (faults.BadRecord errors.KeyOrder) h e p = never-both _ _ h p
fails-test s stamp ws full fuller place (faults.BadRecord errors.BadUtf8) h e p = never-both _ _ h p
fails-test s stamp ws full fuller place (faults.BadRecord errors.Float) h e p = never-both _ _ h p
fails-test s stamp ws full fuller place (faults.BadRecord errors.Simple) h e p = never-both _ _ h p
fails-test s stamp ws full fuller place (faults.BadRecord errors.IntegerRange) h e p = never-both _ _ h p
fails-test s stamp ws full fuller place (faults.BadRecord errors.TooDeep) h e p = never-both _ _ h p
fails-test s stamp ws full fuller place (faults.BadRecord errors.Trailing) h e p = never-both _ _ h p
fails-test s stamp ws full fuller place (faults.BadRecord errors.NoMemory) h e p = absurd h
fails-test s stamp ws full fuller place (faults.Collision pair) h e p = absurd (omega (arith, e))
fails-test s stamp ws full fuller place faults.StoreFull h e p = absurd (omega (arith, e))
fails-test s stamp ws full fuller place faults.NoMemory h e p = absurd (omega (arith, e))

module _ (stamp : Stamp) (ws : List Write) (before room : List ℕ) (size code : ℕ) where
  -- nothing is said where no test tells the number
  pub other_filed : is_other code ≡ true → IsFileOf code before room size stamp ws
  other_filed other = record {
    file = λ not e. absurd cc;
    passes = λ not e. absurd cc;
    none = λ is p. other-32 code other is;
  }

  -- these writes wait in a repository without writes
  module _ (p : Owned) (waits : p ≡ record { state = fresh 0 1048576; pending = ws }) where
    pub refused_filed : {D A : Type 0} (full fuller place : ℕ) (fault : RepoFault D A) → code ≡ batch_number fault
        → IsRefusal sha256 2 p.state stamp p.pending full fuller (place, fault) → IsFileOf code before room size stamp ws
    refused_filed full fuller place fault told refusal =
        let of_fresh = subst (λ (o : Owned). IsRefusal sha256 2 o.state stamp o.pending full fuller (place, fault)) waits refusal in
        record {
          file = λ other e. absurd (no-other fault (subst (λ (n : ℕ). is_other n ≡ false) told other) (subst (λ (n : ℕ). nat_eq n 32 ≡ false) told e));
          passes = λ other e. absurd (no-other fault (subst (λ (n : ℕ). is_other n ≡ false) told other) (subst (λ (n : ℕ). nat_eq n 32 ≡ false) told e));
          none = λ is passes. fails-test (fresh 0 1048576) stamp ws full fuller place fault of_fresh (sym told ∙ is) passes;
        }

    pub taken_filed : (n : Owned) → n ≡ applied p stamp → state_test p.state stamp p.pending ≡ Ok tt
        → IsHandedOr255 code (state_car sha256 2 n.state) before room size → IsFileOf code before room size stamp ws
    taken_filed n is passes handed =
        let after : n.state ≡ after_batch (fresh 0 1048576) stamp ws = ap (λ (o : Owned). o.state) is ∙ ap (λ (o : Owned). after_batch o.state stamp o.pending) waits in
        let whole = subst (λ (s : State). IsHandedOr255 code (state_car sha256 2 s) before room size) after handed in
        record {
          file = λ other e. whole (not-255 code other);
          passes = λ other e. subst (λ (o : Owned). state_test o.state stamp o.pending ≡ Ok tt) waits passes;
          none = λ is _. never-32 is (whole (subst (λ (m : ℕ). nat_eq m 255 ≡ false) (sym is) refl));
        }
      where
        never-32 : code ≡ 32 → IsHanded code (state_car sha256 2 (after_batch (fresh 0 1048576) stamp ws)) before room size → ⊥
        never-32 is h = let small = h.small (λ zero. omega (arith, is, zero)) in omega (arith, is, small.0)

-- writes that were staged in a repository without writes wait there
pub wait_there : (q p : Owned) (ws : List Write) → q ≡ opened 1048576 → p ≡ record { state = q.state; pending = q.pending ++ ws }
    → p ≡ record { state = fresh 0 1048576; pending = ws }
wait_there q p ws is staged = staged ∙ ap (λ (o : Owned). with_them o) is
  where
    with_them : Owned → Owned
    with_them o = record { state = o.state; pending = o.pending ++ ws }

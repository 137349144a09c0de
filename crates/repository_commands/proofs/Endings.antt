-- How a command ends, without memory too.
use Rattle.std.proofs.Common.{◌≡◌, ◌∙◌, ⊎_elim, arith, ℕ, List, [], refl, sym, subst, inl, inr, ap, true}
use Rattle.std.specs.Prelude.{◌⊎◌, Option, Result, Ok, Err, is_ok, IfErr, IfSome, OnOk}
use Rattle.spec.specs.Reading.{Fails}
use Rattle.console.proofs.Known.{always_known, for_known, keeps-itself}
use Rattle.console.proofs.Leaving.{Appends-nil}
use Rattle.console.specs.Faults.{IsWritten}
use Rattle.console.specs.Written.{AppendsBeginning, AppendsText}
use Rattle.console.specs.declared.fault.CommandFault.{CommandFault}
use Rattle.console.specs.declared.fault.CommandFault.TheVariants as commands
use Rattle.console.specs.declared.writing.WriteFault.TheVariants as writes
use Rattle.repository_commands.specs.Faults.{command_status, text_fault_of, is_of_words, status_of, EndsEarly, EndsWords, IfNoText, IsNoTextAnd, TellsFaultyWord, TellsWords}
use Rattle.repository_commands.specs.Outcomes.{HasReason, IsFaulty, IsMade, IsOutcome, Reasons, Texts}
use Rattle.repository_commands.specs.Texts.{text_or_nothing}
use Rattle.repository_commands.specs.declared.fault.TextFault.{TextFault}
use Rattle.repository_commands.specs.declared.fault.TextFault.TheVariants as errors

-- memory was refused before anything was written
pub without_memory : {D A : Type 0} (text : Texts) (input old : Option (List ℕ)) → IsOutcome {D = D} {A = A} text input old old (Err (commands.NoText errors.NoMemory))
without_memory text input old = record {
  written = tt;
  fault = always_known _ input (λ xs. tt);
  write_failed = tt;
  nothing = keeps-itself old;
  beginning = always_known _ input (λ xs. ([], _, refl, Appends-nil old));
}

-- a status of 1 is that of a fault of the text
pub faulty_of : {D A : Type 0} (text : Texts) (Is : Reasons D A) (input old new : Option (List ℕ)) (r : Result (Unit {0}) (CommandFault (TextFault D A))) (n : ℕ)
    → IsOutcome text input old new r → HasReason Is input r → IfErr r (λ e. n ≡ command_status e) → OnOk r ((n ≡ 0) ⊎ (n ≡ 4)) → n ≡ 1 → IsFaulty text Is input
faulty_of text Is input old new (Ok ok) n outcome reason told done one = absurd (⊎_elim (λ z. omega arith) (λ f. omega arith) done)
faulty_of text Is input old new (Err (commands.NoText e)) n outcome reason told done one = record {
  fault = e;
  status = sym told ∙ one;
  of_text = outcome.fault;
  reason = reason;
}
faulty_of text Is input old new (Err (commands.Unwritten writes.NoMemory)) n outcome reason told done one = absurd (omega (arith, told, one))
faulty_of text Is input old new (Err (commands.Unwritten writes.Failed)) n outcome reason told done one = absurd (omega (arith, told, one))

-- ---- a text that was made, and what was written of it

module _ {X D A : Type 0} (view : X → List ℕ) where
  kept : (text : Texts) (input old new : Option (List ℕ)) (f : TextFault D A) → new ≡ old → IfSome input (λ xs. Fails (text_fault_of f) (text xs))
      → IsOutcome {D = D} {A = A} text input old new (Err (commands.NoText f))
  kept text input old new f same fails = subst (λ n. IsOutcome {D = D} {A = A} text input old n (Err (commands.NoText f))) (sym same) record {
    written = tt;
    fault = fails;
    write_failed = tt;
    nothing = keeps-itself old;
    beginning = always_known _ input (λ xs. ([], _, refl, Appends-nil old));
  }

  -- the outcome is that of its text
  pub outcome_of : (text : Texts) (input old new : Option (List ℕ)) (made : Result X (TextFault D A)) (r : Result (Unit {0}) (CommandFault (TextFault D A)))
      → IsMade view text input made → IsWritten view made old new r → IsOutcome text input old new r
  outcome_of text input old new (Ok x) (Ok ok) is w = record {
    written = for_known _ _ input (λ xs e. subst (AppendsText old new) (sym e) w) is;
    fault = tt;
    write_failed = tt;
    nothing = tt;
    beginning = tt;
  }
  outcome_of text input old new (Ok x) (Err (commands.NoText f)) is w = absurd w
  outcome_of text input old new (Ok x) (Err (commands.Unwritten f)) is w = record {
    written = tt;
    fault = tt;
    write_failed = for_known _ _ input (λ xs e. ap is_ok e) is;
    nothing = tt;
    beginning = for_known _ _ input (λ xs e. subst (λ t. AppendsBeginning old new (text_or_nothing t)) (sym e) w) is;
  }
  outcome_of text input old new (Err f) r is w = subst (IsOutcome text input old new) (sym w.0) (kept text input old new f w.1 is)

  -- what a text's fault is, the command's is
  pub fault_on : (P : TextFault D A → Type 0) (old new : Option (List ℕ)) (made : Result X (TextFault D A)) (r : Result (Unit {0}) (CommandFault (TextFault D A)))
      → IfErr made P → IsWritten view made old new r → IfErr r (λ e. IfNoText e P)
  fault_on P old new (Ok x) (Ok ok) is w = tt
  fault_on P old new (Ok x) (Err (commands.NoText f)) is w = absurd w
  fault_on P old new (Ok x) (Err (commands.Unwritten f)) is w = tt
  fault_on P old new (Err f) r is w = subst (λ (q : Result (Unit {0}) (CommandFault (TextFault D A))). IfErr q (λ e. IfNoText e P)) (sym w.0) is

  pub told_on : (old new : Option (List ℕ)) (made : Result X (TextFault D A)) (r : Result (Unit {0}) (CommandFault (TextFault D A)))
      → TellsWords made → IsWritten view made old new r → TellsFaultyWord r
  told_on old new (Ok x) r told w = absurd told
  told_on old new (Err f) r told w = subst (λ (q : Result (Unit {0}) (CommandFault (TextFault D A))). TellsFaultyWord q) (sym w.0) told

  pub ended_on : (old new : Option (List ℕ)) (made : Result X (TextFault D A)) (r : Result (Unit {0}) (CommandFault (TextFault D A)))
      → EndsWords made → IsWritten view made old new r → EndsEarly r
  ended_on old new (Ok x) r told w = absurd told
  ended_on old new (Err f) r told w = subst (λ (q : Result (Unit {0}) (CommandFault (TextFault D A))). EndsEarly q) (sym w.0) told

-- ---- early ends

-- a fault of a word ends a command early
early_fault : {D A : Type 0} (e : CommandFault (TextFault D A)) → IsNoTextAnd e (λ f. is_of_words f ≡ true) → IsNoTextAnd e (λ f. (is_of_words f ≡ true) ⊎ (f ≡ errors.NoMemory))
early_fault (commands.NoText f) told = inl told
early_fault (commands.Unwritten w) told = absurd told

pub early : {X D A : Type 0} (r : Result X (CommandFault (TextFault D A))) → TellsFaultyWord r → EndsEarly r
early (Ok x) told = absurd told
early (Err e) told = early_fault e told

of_words : {D A : Type 0} (e : TextFault D A) → is_of_words e ≡ true → status_of e ≡ 1
of_words errors.NoMemory is = absurd cc
of_words errors.ReadFailed is = absurd cc
of_words errors.BadDid is = refl
of_words errors.BadRev is = refl
of_words errors.BadSig is = refl
of_words errors.NothingToSign is = refl
of_words (errors.Root f) is = refl
of_words (errors.BadBefore f) is = refl
of_words (errors.BadAfter f) is = refl
of_words (errors.Proof f) is = refl
of_words errors.OtherBefore is = refl
of_words errors.OtherAfter is = refl
of_words (errors.Change f) is = refl
of_words (errors.Line n f) is = refl

pub early_status : {D A : Type 0} (r : Result (Unit {0}) (CommandFault (TextFault D A))) (n : ℕ) → EndsEarly r → IfErr r (λ e. n ≡ command_status e) → (n ≡ 1) ⊎ (n ≡ 3)
early_status (Ok ok) n ends told = absurd ends
early_status (Err (commands.NoText e)) n ends told = ⊎_elim (λ words. inl (told ∙ of_words e words)) (λ none. inr (told ∙ ap status_of none)) ends
early_status (Err (commands.Unwritten w)) n ends told = absurd ends

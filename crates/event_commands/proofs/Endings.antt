-- How a command ends, from what was made of its text.
use Rattle.std.proofs.Common.{◌≡◌, ◌∙◌, ⊎_elim, arith, ℕ, List, [], Some, None, refl, sym, subst, inl, inr, ap, true}
use Rattle.std.specs.Prelude.{◌⊎◌, Option, Result, Ok, Err, is_ok, IfErr, IfSome, OnOk}
use Rattle.spec.specs.Reading.{Fails}
use Rattle.console.proofs.Known.{always_known, for_known, keeps-itself}
use Rattle.console.proofs.Leaving.{Appends-nil}
use Rattle.console.specs.Faults.{IsWritten}
use Rattle.console.specs.Written.{AppendsBeginning, AppendsText}
use Rattle.console.specs.declared.fault.CommandFault.{CommandFault}
use Rattle.console.specs.declared.fault.CommandFault.TheVariants as commands
use Rattle.console.specs.declared.writing.WriteFault.TheVariants as writes
use Rattle.repository_commands.specs.Faults.{IfNoText}
use Rattle.repository_commands.proofs.Endings.{early_status as early_status_of_text}
use Rattle.event_commands.specs.Faults.{command_status, message_fault_of, status_of, EndsAtWords, EndsEarly, EndsWords}
use Rattle.event_commands.specs.Outcomes.{HasReason, IsFaulty, IsMade, IsOutcome, Reasons, Texts}
use Rattle.event_commands.specs.Texts.{text_or_nothing}
use Rattle.event_commands.specs.declared.fault.MessageFault.{MessageFault}
use Rattle.event_commands.specs.declared.fault.MessageFault.TheVariants as errors

-- nothing is a beginning of any text
pub begun_with_nothing : (text : Texts) (input old : Option (List ℕ)) → IfSome input (λ xs. AppendsBeginning old old (text_or_nothing (text xs)))
begun_with_nothing text input old = always_known _ input (λ xs. ([], _, refl, Appends-nil old))

-- a status of 1 is that of a fault of the text
pub faulty_of : {D : Type 0} (text : Texts) (Is : Reasons D) (input old new : Option (List ℕ)) (r : Result (Unit {0}) (CommandFault (MessageFault D))) (n : ℕ)
    → IsOutcome text input old new r → HasReason Is input r → IfErr r (λ e. n ≡ command_status e) → OnOk r ((n ≡ 0) ⊎ (n ≡ 4)) → n ≡ 1 → IsFaulty text Is input
faulty_of text Is input old new (Ok ok) n outcome reason told done one = absurd (⊎_elim (λ z. omega arith) (λ f. omega arith) done)
faulty_of text Is input old new (Err (commands.NoText e)) n outcome reason told done one = record {
  fault = e;
  status = sym told ∙ one;
  of_text = outcome.fault;
  reason = reason;
}
faulty_of text Is input old new (Err (commands.Unwritten writes.NoMemory)) n outcome reason told done one = absurd (omega (arith, told, one))
faulty_of text Is input old new (Err (commands.Unwritten writes.Failed)) n outcome reason told done one = absurd (omega (arith, told, one))

-- ---- a text that was made, and what was written of it

module _ {X D : Type 0} (view : X → List ℕ) where
  kept : (text : Texts) (input old new : Option (List ℕ)) (f : MessageFault D) → new ≡ old → IfSome input (λ xs. Fails (message_fault_of f) (text xs))
      → IsOutcome {D = D} text input old new (Err (commands.NoText f))
  kept text input old new f same fails = subst (λ n. IsOutcome {D = D} text input old n (Err (commands.NoText f))) (sym same) record {
    written = tt;
    fault = fails;
    write_failed = tt;
    nothing = keeps-itself old;
    beginning = always_known _ input (λ xs. ([], _, refl, Appends-nil old));
  }

  -- the outcome is that of its text
  pub outcome_of : (text : Texts) (input old new : Option (List ℕ)) (made : Result X (MessageFault D)) (r : Result (Unit {0}) (CommandFault (MessageFault D)))
      → IsMade view text input made → IsWritten view made old new r → IsOutcome text input old new r
  outcome_of text input old new (Ok x) (Ok ok) is w = record {
    written = for_known _ _ input (λ xs e. subst (AppendsText old new) (sym e) w) is;
    fault = tt;
    write_failed = tt;
    nothing = tt;
    beginning = tt;
  }
  outcome_of text input old new (Ok x) (Err (commands.NoText f)) is w = absurd w
  outcome_of text input old new (Ok x) (Err (commands.Unwritten f)) is w = record {
    written = tt;
    fault = tt;
    write_failed = for_known _ _ input (λ xs e. ap is_ok e) is;
    nothing = tt;
    beginning = for_known _ _ input (λ xs e. subst (λ t. AppendsBeginning old new (text_or_nothing t)) (sym e) w) is;
  }
  outcome_of text input old new (Err f) r is w = subst (IsOutcome text input old new) (sym w.0) (kept text input old new f w.1 is)

  -- what a text's fault is, the command's is
  pub fault_on : (P : MessageFault D → Type 0) (old new : Option (List ℕ)) (made : Result X (MessageFault D)) (r : Result (Unit {0}) (CommandFault (MessageFault D)))
      → IfErr made P → IsWritten view made old new r → IfErr r (λ e. IfNoText e P)
  fault_on P old new (Ok x) (Ok ok) is w = tt
  fault_on P old new (Ok x) (Err (commands.NoText f)) is w = absurd w
  fault_on P old new (Ok x) (Err (commands.Unwritten f)) is w = tt
  fault_on P old new (Err f) r is w = subst (λ (q : Result (Unit {0}) (CommandFault (MessageFault D))). IfErr q (λ e. IfNoText e P)) (sym w.0) is

  -- whatever the input is
  pub reason_on : (P : MessageFault D → Type 0) (input old new : Option (List ℕ)) (made : Result X (MessageFault D)) (r : Result (Unit {0}) (CommandFault (MessageFault D)))
      → IfErr made P → IsWritten view made old new r → HasReason (λ xs e. P e) input r
  reason_on P input old new (Ok x) (Ok ok) is w = tt
  reason_on P input old new (Ok x) (Err (commands.NoText f)) is w = absurd w
  reason_on P input old new (Ok x) (Err (commands.Unwritten f)) is w = tt
  reason_on P input old new (Err f) r is w =
      subst (λ (q : Result (Unit {0}) (CommandFault (MessageFault D))). HasReason (λ xs e. P e) input q) (sym w.0) (always_known (λ xs. P f) input (λ xs. is))

  pub ended_on : (old new : Option (List ℕ)) (made : Result X (MessageFault D)) (r : Result (Unit {0}) (CommandFault (MessageFault D)))
      → EndsWords made → IsWritten view made old new r → EndsEarly r
  ended_on old new (Ok x) r told w = absurd told
  ended_on old new (Err f) r told w = subst (λ (q : Result (Unit {0}) (CommandFault (MessageFault D))). EndsEarly q) (sym w.0) told

-- ---- early ends

at_words : {D : Type 0} (e : MessageFault D) (n : ℕ) → EndsAtWords e → n ≡ status_of e → (n ≡ 1) ⊎ (n ≡ 3)
at_words (errors.Text f) n (inl words) told = early_status_of_text (Err (commands.NoText f)) n (inl words) told
at_words (errors.Untold f) n (inl words) told = absurd cc
at_words (errors.Message m f) n (inl words) told = absurd cc
at_words e n (inr none) told = inr (told ∙ ap status_of none)

pub early_status : {D : Type 0} (r : Result (Unit {0}) (CommandFault (MessageFault D))) (n : ℕ) → EndsEarly r → IfErr r (λ e. n ≡ command_status e) → (n ≡ 1) ⊎ (n ≡ 3)
early_status (Ok ok) n ends told = absurd ends
early_status (Err (commands.NoText e)) n ends told = at_words e n ends told
early_status (Err (commands.Unwritten w)) n ends told = absurd ends

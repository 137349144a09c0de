-- How a command ends.
use Rattle.std.specs.Prelude.{◌≡◌, ◌≤◌, ℕ, true, List, Option, Result, is_ok, IfSome, IfErr, OnOk, OnErr}
use Rattle.std.specs.Io.KnownBytes.{Keeps}
use Rattle.spec.specs.Reading.{Gives, Fails}
use Rattle.console.specs.Written.{AppendsBeginning, AppendsText}
use Rattle.console.specs.declared.fault.CommandFault.{CommandFault}
use Rattle.repository_commands.specs.Faults.{IfNoText, IfUnwritten}
use Rattle.event_commands.specs.Faults.{Fault, message_fault_of, status_of}
use Rattle.event_commands.specs.Texts.{text_or_nothing}
use Rattle.event_commands.specs.declared.fault.MessageFault.{MessageFault}

-- what a command is to write for an input, or why nothing
abbrev pub Texts : Type 0
Texts = List ℕ → Result (List ℕ) Fault

-- A command ended so, on an input that is known or not, and with a writer's known contents before and
-- after: what it wrote is the text of the input; a fault of the text is the one that the input has, and
-- then nothing was written; a write fails only where there is a text; and how much of it was written.
pub record IsOutcome {D : Type 0} (text : Texts) (input old new : Option (List ℕ))
    (result : Result (Unit {0}) (CommandFault (MessageFault D))) : Type 0 where
  pub written : OnOk result (IfSome input (λ xs. AppendsText old new (text xs)))
  pub fault : IfErr result (λ e. IfNoText e (λ f. IfSome input (λ xs. Fails (message_fault_of f) (text xs))))
  pub write_failed : IfErr result (λ e. IfUnwritten e (IfSome input (λ xs. is_ok (text xs) ≡ true)))
  pub nothing : IfErr result (λ e. IfNoText e (λ f. Keeps old new))
  pub beginning : OnErr result (IfSome input (λ xs. AppendsBeginning old new (text_or_nothing (text xs))))

-- what was made of an input that is known is its text
abbrev pub IsMade : {X D : Type 0} → (X → List ℕ) → Texts → Option (List ℕ)
    → Result X (MessageFault D) → Type 0
IsMade view text input made = IfSome input (λ xs. Gives view message_fault_of made (text xs))

-- The exit status of a command. At 0 the text of the input was written, and at 1 nothing. At any a
-- beginning of the text was, and so nothing where there is no text.
pub record IsStatusOf (text : Texts) (input old new : Option (List ℕ)) (status : ℕ) : Type 0 where
  pub one_of : status ≤ 4
  pub done : status ≡ 0 → IfSome input (λ xs. AppendsText old new (text xs))
  pub nothing : status ≡ 1 → Keeps old new
  pub usage : (status ≡ 2) → ⊥
  pub beginning : IfSome input (λ xs. AppendsBeginning old new (text_or_nothing (text xs)))

-- what is to hold of an input and of the fault of its text
abbrev pub Reasons : Type 0 → Type 1
Reasons D = List ℕ → MessageFault D → Type 0

-- that holds of the text's fault, where there is one and the input is known
abbrev pub HasReason : {D : Type 0} → Reasons D → Option (List ℕ)
    → Result (Unit {0}) (CommandFault (MessageFault D)) → Type 0
HasReason Is input result = IfErr result (λ e. IfNoText e (λ f. IfSome input (λ xs. Is xs f)))

-- A fault that ends with status 1, as neither memory nor a device does: it is the one that the text of
-- the input has, if the definitions name it; and there is a reason for it.
pub record IsFaulty {D : Type 0} (text : Texts) (Is : Reasons D) (input : Option (List ℕ)) : Type 0 where
  pub fault : MessageFault D
  pub status : status_of fault ≡ 1
  pub of_text : IfSome input (λ xs. Fails (message_fault_of fault) (text xs))
  pub reason : IfSome input (λ xs. Is xs fault)

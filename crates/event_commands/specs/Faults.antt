-- Why there is no text of a message, or of messages (the names are a choice of this project).
use Rattle.std.specs.Prelude.{◌≡◌, ◌⊎◌, ℕ, Bool, true, false, Option, Some, None, option_map}
use Rattle.std.specs.Prelude.{Result, IsErrAnd}
use Rattle.event_laws.specs.Verdict as verdict
use Rattle.event_writing_laws.specs.Telling as telling
use Rattle.event_writing.specs.Views.{untold_fault_of}
use Rattle.event_writing.specs.declared.fault.UntoldFault.TheVariants as untold
use Rattle.commit_events.specs.Views.{event_fault_of}
use Rattle.commit_events.specs.declared.fault.EventFault.TheVariants as events
use Rattle.console.specs.Faults.{write_status}
use Rattle.console.specs.declared.fault.CommandFault.{CommandFault}
use Rattle.console.specs.declared.fault.CommandFault.TheVariants as commands
use Rattle.console.specs.declared.reading.ReadFault.{ReadFault}
use Rattle.console.specs.declared.reading.ReadFault.TheVariants as reads
use Rattle.repository_commands.specs.Faults as texts
use Rattle.repository_commands.specs.Faults.{IsNoTextAnd}
use Rattle.repository_commands.specs.declared.fault.TextFault.TheVariants as of_text
use Rattle.event_commands.specs.declared.fault.MessageFault.{MessageFault}
use Rattle.event_commands.specs.declared.fault.MessageFault.TheVariants as errors

-- a word that is none or a line of the input, as of the commands on a repository; a batch of which no message tells; or a message
-- that isn't true, by its number, from 1
pub data Fault : Type 0 where
  OfText : texts.Fault → Fault
  OfBatch : telling.UntoldFault → Fault
  OfMessage : ℕ → verdict.EventFault → Fault

-- what a fault of the program is to these definitions, which know nothing of clashes of records, of a full store, of memory and of
-- devices
abbrev pub message_fault_of : {D : Type 0} → MessageFault D → Option Fault
message_fault_of (errors.Text f) = option_map OfText (texts.text_fault_of f)
message_fault_of (errors.Untold f) = option_map OfBatch (untold_fault_of f)
message_fault_of (errors.Message n f) = option_map (OfMessage n) (event_fault_of f)

-- what a failed read is called
abbrev pub of_read : {D : Type 0} → ReadFault → MessageFault D
of_read reads.NoMemory = errors.Text of_text.NoMemory
of_read reads.Failed = errors.Text of_text.ReadFailed

-- ---- the status that the program ends with

abbrev pub status_of : {D : Type 0} → MessageFault D → ℕ
status_of (errors.Text f) = texts.status_of f
status_of (errors.Untold untold.NoMemory) = 3
status_of (errors.Message n events.NoMemory) = 3
status_of fault = 1

abbrev pub command_status : {D : Type 0} → CommandFault (MessageFault D) → ℕ
command_status (commands.NoText e) = status_of e
command_status (commands.Unwritten w) = write_status w

-- ---- a fault of a word, or memory was refused to the words themselves

abbrev pub is_of_words : {D : Type 0} → MessageFault D → Bool
is_of_words (errors.Text f) = texts.is_of_words f
is_of_words fault = false

abbrev pub EndsAtWords : {D : Type 0} → MessageFault D → Type 0
EndsAtWords e = (is_of_words e ≡ true) ⊎ (e ≡ errors.Text of_text.NoMemory)

abbrev pub EndsWords : {X D : Type 0} → Result X (MessageFault D) → Type 0
EndsWords result = IsErrAnd result EndsAtWords

abbrev pub EndsEarly : {X D : Type 0} → Result X (CommandFault (MessageFault D)) → Type 0
EndsEarly result = IsErrAnd result (λ e. IsNoTextAnd e EndsAtWords)

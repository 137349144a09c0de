-- What each command writes, by its words.
use Rattle.std.specs.Prelude.{ℕ, List, IsErr}
use Rattle.event_commands.specs.Outcomes.{Reasons, Texts}
use Rattle.event_commands.specs.Refusals.{IsOfNoLine, IsUntold}
use Rattle.event_commands.specs.Texts.{check_event_text, event_text, root_of_word, signature_of}
use Rattle.event_commands.specs.Views.{words_of}
use Rattle.event_commands.specs.declared.command.EventCommand.{EventCommand}
use Rattle.event_commands.specs.declared.command.EventCommand.TheVariants as commands

abbrev pub texts_of : (List ℕ → List ℕ) → EventCommand → Texts
texts_of digest (commands.Write subject words form) = event_text digest subject form (words_of words)
texts_of digest (commands.Check previous form) = check_event_text digest form previous.now

-- why there may be no text of an input: `commit-event` and `sync-event` refuse a line alone that a repository refuses, and
-- `check-event` none
abbrev pub reasons_of : {D : Type 0} → (List ℕ → List ℕ) → EventCommand → Reasons D
reasons_of digest (commands.Write subject words form) = IsUntold digest form (words_of words)
reasons_of digest (commands.Check previous form) = λ input e. IsOfNoLine e

-- a word of the command isn't one that it takes
abbrev pub HasFaultyWord : EventCommand → Type 0
HasFaultyWord (commands.Write subject words form) = IsErr (signature_of (words_of words))
HasFaultyWord (commands.Check previous form) = IsErr (root_of_word previous.now)

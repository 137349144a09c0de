-- Which command a name and its words ask for.
use Rattle.std.specs.Prelude.{◌≡◌, ◌≢◌, ℕ, true, List, [], ◌∷◌, ◌++◌, Option, Some, None, codes, option_map}
use Rattle.clap.specs.Simple.{App, Shape, new_rule, new_shape}
use Rattle.clap.specs.Words.{with_subcommand}
use Rattle.clap.specs.Walk.{Row, Rule, first_of, one_of}
use Rattle.clap.specs.declared.builder.value_parser.ValueParser.TheVariants as parsers
use Rattle.console.specs.FileWords.{with_file}
use Rattle.console.specs.Numbers.{IsNumberOf}
use Rattle.console.specs.Words.{required_rule, word_or}
use Rattle.record_forms.specs.Options.{IsFormOf, json_rule}
use Rattle.event_commands.specs.declared.command.EventCommand.{EventCommand}
use Rattle.event_commands.specs.declared.command.EventCommand.TheVariants as commands
use Rattle.event_commands.specs.declared.command.EventWords.{EventWords}
use Rattle.event_commands.specs.declared.command.Subject.{Subject}
use Rattle.event_commands.specs.declared.command.Subject.TheVariants as subjects

-- `--id TEXT`, which may be left out
abbrev pub optional_rule : List ℕ → Rule
optional_rule id = record (new_rule id) { long = Some id; value_names = 1 }

-- `--id TEXT`, which must be there
abbrev pub needed_rule : List ℕ → Rule
needed_rule id = record (new_rule id) { long = Some id; value_names = 1; required = true }

-- `--seq N`, a number of 64 bits, which must be there
abbrev pub seq_rule : Rule
seq_rule = record (new_rule (codes "seq")) {
  long = Some (codes "seq");
  value_names = 1;
  required = true;
  parser = Some (parsers.Unsigned 0 18446744073709551615);
}

-- the name of the command that writes a message
abbrev pub name_of : Subject → List ℕ
name_of subjects.Batch = codes "commit-event"
name_of subjects.State = codes "sync-event"

-- a command that is no part of a program
abbrev pub alone : Shape → App
alone command = record { top = command; subs = [] }

-- what clap reads of each command (`--help` comes with each); first the words of both that write a message
abbrev pub told_shape : Subject → Shape
told_shape subject = record (new_shape (name_of subject)) {
  rules = required_rule (codes "did") ∷ required_rule (codes "rev") ∷ seq_rule ∷ needed_rule (codes "time")
      ∷ needed_rule (codes "sig") ∷ json_rule ∷ [];
}

abbrev pub commit_event_shape : Shape
commit_event_shape =
    record (told_shape subjects.Batch) { rules = (told_shape subjects.Batch).rules ++ optional_rule (codes "since") ∷ [] }

abbrev pub sync_event_shape : Shape
sync_event_shape = told_shape subjects.State

abbrev pub check_event_shape : Shape
check_event_shape = record (new_shape (codes "check-event")) { rules = required_rule (codes "previous") ∷ json_rule ∷ [] }

-- a program with these commands, each of which may be given a file
abbrev pub with_commands : App → App
with_commands app = with_subcommand (with_subcommand (with_subcommand app (with_file commit_event_shape))
    (with_file sync_event_shape)) (with_file check_event_shape)

-- the number that the words give
abbrev pub IsSeqOf : List Row → ℕ → Type 0
IsSeqOf rows seq = (n : ℕ) → IsNumberOf 64 0 (one_of (codes "seq") rows) n → seq ≡ n

-- what the words tell, with this revision before, if one is told
abbrev pub AreEventWords : List Row → Option (List ℕ) → EventWords → Type 0
AreEventWords rows since words = (words.did.now ≡ word_or [] rows (codes "did"))
    × (words.rev.now ≡ word_or [] rows (codes "rev"))
    × (option_map (λ s. s.now) words.since ≡ since)
    × IsSeqOf rows words.seq
    × (words.time.now ≡ word_or [] rows (codes "time"))
    × (words.sig.now ≡ word_or [] rows (codes "sig"))

-- of a state they tell none
abbrev pub since_in : Subject → List Row → Option (List ℕ)
since_in subjects.Batch rows = first_of (codes "since") rows
since_in subjects.State rows = None

-- the command is the one of this name, and has what the words say
abbrev pub IsOfWords : List ℕ → List Row → EventCommand → Type 0
IsOfWords name rows (commands.Write subject words form) = (name ≡ name_of subject)
    × AreEventWords rows (since_in subject rows) words
    × IsFormOf rows form
IsOfWords name rows (commands.Check previous form) = (name ≡ codes "check-event")
    × (previous.now ≡ word_or [] rows (codes "previous"))
    × IsFormOf rows form

-- no command on messages has this name
abbrev pub IsOtherName : List ℕ → Type 0
IsOtherName name = (name ≢ codes "commit-event") × (name ≢ codes "sync-event") × (name ≢ codes "check-event")

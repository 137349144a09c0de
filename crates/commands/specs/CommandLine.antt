-- What the words of a command line ask for, by clap's contract. Of a program as simple as this one it
-- has as functions of the words which faults they have (`fault_of`), and which command they name, with
-- the values of its options (`subcommand_of`).
use Rattle.std.specs.Prelude.{◌≡◌, ◌⊎◌, ℕ, Bool, true, false, List, [], ◌∷◌, IsSomeAnd, Option, codes}
use Rattle.std.specs.Prelude.{option_and_then, option_map}
use Rattle.std.specs.Borrow.{Bor}
use Rattle.std.specs.List.{Any}
use Rattle.clap.specs.Faults.{fault_of}
use Rattle.clap.specs.Kinds.{IsAmong, Kinds}
use Rattle.clap.specs.Simple.{App, Shape, new_shape, subcommand_of}
use Rattle.clap.specs.Walk.{Row, Text}
use Rattle.clap.specs.declared.error.kind.ErrorKind.{ErrorKind}
use Rattle.clap.specs.declared.error.kind.ErrorKind.TheVariants.{DisplayHelp, DisplayVersion}
use Rattle.console.specs.FileWords.{file_in, with_file}
use Rattle.commands.specs.declared.command_line.Request.{Request}
use Rattle.commands.specs.declared.command_line.Request.TheVariants as requests
use Rattle.explain_command.specs.Words.{HasNameOf, explain_shape}
use Rattle.tree_command.specs.Words.{AreKeysOf, HasNumberOf, tree_shape}
use Rattle.repository_commands.specs.Words.{IsOfWords, car_shape, prove_shape, verify_shape}
use Rattle.change_commands.specs.Words.{prove_change_shape, verify_change_shape, IsOfWords as IsChangeOfWords}
use Rattle.event_commands.specs.Words.{check_event_shape, commit_event_shape, sync_event_shape, IsOfWords as IsEventOfWords}
use Rattle.export_commands.specs.Words.{check_shape, records_shape, commit_shape, IsOfWords as IsExportOfWords}
use Rattle.difference_commands.specs.Words.{changes_shape, IsOfWords as AreChangesOfWords}
use Rattle.run_command.specs.Words.{AreSettingsOf, did_of_words, run_shape}

-- What clap reads of the program, beside its commands: it has a version and wants a command, and
-- its `help` is one of its own.
abbrev pub program_shape : Shape
program_shape = record (new_shape (codes "msthost")) {
  is_leaf = false;
  has_version = true;
  subcommand_required = true;
  disable_help_subcommand = true;
}

-- the command `help`, which takes no words
abbrev pub help_shape : Shape
help_shape = new_shape (codes "help")

-- the program with its sixteen commands, of which those that read something may be given a file
unfoldable pub msthost : App
msthost = record {
  top = program_shape;
  subs = with_file tree_shape ∷ with_file car_shape ∷ with_file prove_shape ∷ with_file verify_shape
      ∷ with_file prove_change_shape ∷ with_file verify_change_shape ∷ with_file commit_event_shape
      ∷ with_file sync_event_shape ∷ with_file check_event_shape ∷ with_file check_shape
      ∷ with_file records_shape ∷ with_file commit_shape ∷ changes_shape ∷ with_file run_shape
      ∷ explain_shape ∷ help_shape ∷ [];
}

-- the request is the one of this name, with what the command's own words say
abbrev pub IsNamed : Text → List Row → Request → Type 0
IsNamed name rows (requests.Tree options) = (name ≡ codes "tree") × HasNumberOf rows options.bits
    × AreKeysOf rows options.keys
IsNamed name rows (requests.OnRepository command) = IsOfWords name rows command
IsNamed name rows (requests.OnChange command) = IsChangeOfWords name rows command
IsNamed name rows (requests.OnMessages command) = IsEventOfWords name rows command
IsNamed name rows (requests.OnExport command) = IsExportOfWords name rows command
IsNamed name rows (requests.OnDifference words) = AreChangesOfWords name rows words
IsNamed name rows (requests.Run command) = (name ≡ codes "run")
    × AreSettingsOf rows command.settings × (command.did.now ≡ did_of_words rows)
IsNamed name rows (requests.Explain command) = (name ≡ codes "explain") × HasNameOf rows command
IsNamed name rows requests.Help = name ≡ codes "help"

-- The words, of which the first is the program's name, are a command line of the program, and ask for
-- this: clap finds no fault in them, and finds a command, by its name and with what is said of it.
pub record IsAskedBy (words : List Text) (request : Request) : Type 0 where
  pub faultless : fault_of msthost words ≡ []
  pub found : IsSomeAnd (subcommand_of msthost words) (λ c. IsNamed c.0 c.1 request)

-- the file that the words of a command name, if there is a command and they name one
abbrev pub file_given : Option (Text × List Row) → Option Text
file_given = option_and_then (λ c. file_in c.1)

-- the file that the words of a command line name for its command to read, if they name one
abbrev pub file_of_words : List Text → Option Text
file_of_words words = file_given (subcommand_of msthost words)

-- the name of a file, if there is one
abbrev pub name_of : Option (Bor Text) → Option Text
name_of = option_map (λ name. name.now)

-- one of the commands has this name
abbrev pub IsCommandName : Text → Type 0
IsCommandName name = Any (λ x. x ≡ name) (codes "tree" ∷ codes "car" ∷ codes "prove" ∷ codes "verify"
    ∷ codes "prove-change" ∷ codes "verify-change" ∷ codes "commit-event" ∷ codes "sync-event"
    ∷ codes "check-event" ∷ codes "check" ∷ codes "records" ∷ codes "commit" ∷ codes "changes"
    ∷ codes "run" ∷ codes "explain" ∷ codes "help" ∷ [])

-- an answer of this kind is help or the version
abbrev pub is_shown : ErrorKind → Bool
is_shown DisplayHelp = true
is_shown DisplayVersion = true
is_shown _ = false

-- what is shown was written, or could not be; a fault of the words is told
abbrev pub IsEndOf : Bool → ℕ → Type 0
IsEndOf true status = (status ≡ 0) ⊎ (status ≡ 4)
IsEndOf false status = status ≡ 2

-- How a run ends that has no request, by the kinds of answer that clap has for its words: memory was
-- refused, or it ends as one of these kinds does.
abbrev pub EndsWithout : Kinds → ℕ → Type 0
EndsWithout kinds status = (status ≡ 3)
    ⊎ ((kind : ErrorKind) × IsAmong kind kinds × IsEndOf (is_shown kind) status)

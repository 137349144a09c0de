-- What the words of the command say.
use Rattle.std.specs.Prelude.{◌≡◌, ◌≢◌, ℕ, List, [], ◌∷◌, Option, Some, None, option_map, is_some, codes, if◌then◌else◌}
use Rattle.std.specs.Str.{bytes_eq}
use Rattle.clap.specs.Simple.{Shape, new_rule, new_shape}
use Rattle.clap.specs.Walk.{Row, Rule, first_of, one_of}
use Rattle.clap.specs.declared.builder.action.ArgAction.TheVariants.{SetTrue}
use Rattle.console.specs.Words.{required_rule, word_or}
use Rattle.difference_commands.specs.declared.command.ChangesCommand.{ChangesCommand}
use Rattle.difference_commands.specs.declared.command.Form.{Form}
use Rattle.difference_commands.specs.declared.command.Form.TheVariants as forms
use Rattle.difference_commands.specs.declared.command.Values.{Values}
use Rattle.difference_commands.specs.declared.command.Values.TheVariants as values
use Rattle.difference_commands.specs.declared.words.ChangesWords.{ChangesWords}

-- `--form FORM`
abbrev pub form_rule : Rule
form_rule = record (new_rule (codes "form")) { long = Some (codes "form"); value_names = 1 }

-- `--records`: there or not
abbrev pub records_rule : Rule
records_rule = record (new_rule (codes "records")) { long = Some (codes "records"); action = Some SetTrue }

-- `--blocks FILE`
abbrev pub blocks_rule : Rule
blocks_rule = record (new_rule (codes "blocks")) { long = Some (codes "blocks"); value_names = 1 }

-- what clap reads of the command (`--help` comes with each)
abbrev pub changes_shape : Shape
changes_shape = record (new_shape (codes "changes")) {
  rules = required_rule (codes "old") ∷ required_rule (codes "new") ∷ form_rule ∷ records_rule ∷ blocks_rule ∷ [];
}

-- where `--records` is among the words records are asked for, and else CIDs alone
pub record AreValuesOf (rows : List Row) (asked : Values) : Type 0 where
  pub records : one_of (codes "records") rows ≡ Some (codes "true") → asked ≡ values.Records
  pub cids : one_of (codes "records") rows ≡ Some (codes "false") → asked ≡ values.Cids

-- the words have what the rows say
pub record IsOfWords (name : List ℕ) (rows : List Row) (words : ChangesWords) : Type 0 where
  pub name_is : name ≡ codes "changes"
  pub old : words.old.now ≡ word_or [] rows (codes "old")
  pub new : words.new.now ≡ word_or [] rows (codes "new")
  pub form : option_map (λ word. word.now) words.form ≡ first_of (codes "form") rows
  pub values : AreValuesOf rows words.values
  pub blocks : option_map (λ word. word.now) words.blocks ≡ first_of (codes "blocks") rows

-- it is another command
abbrev pub IsOtherName : List ℕ → Type 0
IsOtherName name = name ≢ codes "changes"

-- the form of a name
abbrev pub form_named : List ℕ → Option (Option Form)
form_named word =
    if bytes_eq word (codes "car") then Some (Some forms.Car)
    else if bytes_eq word (codes "listing") then Some (Some forms.Listing)
    else if bytes_eq word (codes "records") then Some (Some forms.Records)
    else None

-- of a word that may be none, or nothing where it is no form's
abbrev pub form_of_word : Option (List ℕ) → Option (Option Form)
form_of_word None = Some None
form_of_word (Some word) = form_named word

-- the command of words with this form
abbrev pub in_form : ChangesWords → Option Form → ChangesCommand
in_form words form = record { form = form; values = words.values; blocks = is_some words.blocks }

-- the command that the words ask for, or nothing where the word for the form is none
abbrev pub command_of : ChangesWords → Option ChangesCommand
command_of words =
    option_map (in_form words) (form_of_word (option_map (λ word. word.now) words.form))

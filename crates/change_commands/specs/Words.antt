-- Which command a name and its words ask for.
use Rattle.std.specs.Prelude.{◌≡◌, ◌≢◌, ℕ, List, [], ◌∷◌, Some, codes}
use Rattle.clap.specs.Simple.{App, Shape, new_rule, new_shape}
use Rattle.clap.specs.Words.{with_subcommand}
use Rattle.clap.specs.Walk.{Row, Rule, one_of}
use Rattle.clap.specs.declared.builder.action.ArgAction.TheVariants.{SetTrue}
use Rattle.console.specs.FileWords.{with_file}
use Rattle.record_forms.specs.Options.{IsFormOf, json_rule}
use Rattle.change_commands.specs.declared.direction.Direction.{Direction}
use Rattle.change_commands.specs.declared.direction.Direction.TheVariants as directions
use Rattle.console.specs.Words.{required_rule, word_or}
use Rattle.change_commands.specs.declared.words.ChangeCommand.{ChangeCommand}
use Rattle.change_commands.specs.declared.words.ChangeCommand.TheVariants as commands

-- `--inversion`: there or not
abbrev pub inversion_rule : Rule
inversion_rule = record (new_rule (codes "inversion")) { long = Some (codes "inversion"); action = Some SetTrue }

-- where `--inversion` is among the words changes are undone, and else done
pub record IsDirectionOf (rows : List Row) (direction : Direction) : Type 0 where
  pub inversion : one_of (codes "inversion") rows ≡ Some (codes "true") → direction ≡ directions.Inversion
  pub forward : one_of (codes "inversion") rows ≡ Some (codes "false") → direction ≡ directions.Forward

-- what clap reads of each command (`--help` comes with each)
abbrev pub prove_change_shape : Shape
prove_change_shape = record (new_shape (codes "prove-change")) { rules = inversion_rule ∷ json_rule ∷ [] }

abbrev pub verify_change_shape : Shape
verify_change_shape = record (new_shape (codes "verify-change")) {
  rules = required_rule (codes "before") ∷ required_rule (codes "after") ∷ inversion_rule ∷ [];
}

-- a program with these commands, each of which may be given a file
abbrev pub with_commands : App → App
with_commands app = with_subcommand (with_subcommand app (with_file prove_change_shape))
    (with_file verify_change_shape)

-- the command is the one of this name, and has what the words say
abbrev pub IsOfWords : List ℕ → List Row → ChangeCommand → Type 0
IsOfWords name rows (commands.Prove direction form) = (name ≡ codes "prove-change")
    × IsDirectionOf rows direction
    × IsFormOf rows form
IsOfWords name rows (commands.Verify direction before after) = (name ≡ codes "verify-change")
    × IsDirectionOf rows direction
    × (before.now ≡ word_or [] rows (codes "before"))
    × (after.now ≡ word_or [] rows (codes "after"))

-- no command on a change has this name
abbrev pub IsOtherName : List ℕ → Type 0
IsOtherName name = (name ≢ codes "prove-change") × (name ≢ codes "verify-change")

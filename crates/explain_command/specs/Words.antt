-- What the words of the command say.
use Rattle.std.specs.Prelude.{◌≡◌, List, [], ◌∷◌, codes}
use Rattle.clap.specs.Simple.{Shape, new_rule, new_shape}
use Rattle.clap.specs.Walk.{Row, Rule, first_of}
use Rattle.explain_command.specs.declared.words.ExplainCommand.{ExplainCommand}
use Rattle.explain_command.specs.Explained.{word_of}

-- a name, or none
abbrev pub name_rule : Rule
name_rule = record (new_rule (codes "name")) { value_names = 1 }

-- what clap reads of the command `explain` (`--help` comes with each command)
abbrev pub explain_shape : Shape
explain_shape = record (new_shape (codes "explain")) { rules = name_rule ∷ [] }

-- the name is the one that the words give, if they give one
abbrev pub HasNameOf : List Row → ExplainCommand → Type 0
HasNameOf rows command = word_of command.name ≡ first_of (codes "name") rows

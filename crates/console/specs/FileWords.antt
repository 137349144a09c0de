-- The word of a command line that names the file that a command reads.
use Rattle.std.specs.Prelude.{List, [], ◌∷◌, ◌++◌, Option, codes}
use Rattle.clap.specs.Simple.{Shape, new_rule}
use Rattle.clap.specs.Walk.{Row, Rule, Text, first_of}

-- a name, or none
abbrev pub file_rule : Rule
file_rule = record (new_rule (codes "file")) { value_names = 1 }

-- a command with this word behind its others
abbrev pub with_file : Shape → Shape
with_file command = record command { rules = command.rules ++ file_rule ∷ [] }

-- the name that the words give, if they give one
abbrev pub file_in : List Row → Option Text
file_in = first_of (codes "file")

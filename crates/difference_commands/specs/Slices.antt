-- What comes, as the code has it.
use Rattle.std.specs.Prelude.{ℕ, List, map, Option}
use Rattle.std.specs.Arc.{arc_value}
use Rattle.difference_commands.specs.Texts.{Coming}
use Rattle.difference_commands.specs.declared.trees.Compared.{Compared}

-- to a commit, if there is one
abbrev pub coming : {D A : Type 0} → Option (List ℕ) → Compared D A → Coming
coming commit c = record { commit = commit; root = c.root; nodes = map arc_value c.found.come.items }

use Rattle.std.proofs.Common.{◌≡◌, ◌++◌, drop}
use Rattle.std.specs.List.{flat_map}
use Rattle.difference.specs.Merged.{changes_told}
use Rattle.difference_commands.specs.Texts.{change_line}
use Rattle.difference_commands.proofs.text.push_changes.Given as goal

abbrev pub invariant-loop-change : goal.invariant-loop-change
invariant-loop-change g l =
    l.text.items ++ flat_map change_line (changes_told (drop l.change-index l.changes))
    ≡ l.initial.text.items ++ flat_map change_line (changes_told l.changes)

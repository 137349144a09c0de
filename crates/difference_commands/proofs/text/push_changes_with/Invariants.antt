use Rattle.std.proofs.Common.{◌≡◌, ◌++◌, drop}
use Rattle.std.specs.List.{flat_map}
use Rattle.difference.specs.Merged.{changes_told}
use Rattle.difference_commands.specs.Texts.{change_line_with}
use Rattle.difference_commands.specs.Views.{records_in}
use Rattle.difference_commands.proofs.text.push_changes_with.Given as goal

abbrev pub invariant-loop-change : goal.invariant-loop-change
invariant-loop-change g l =
    l.text.items ++ flat_map (change_line_with (records_in l.old) (records_in l.new)) (changes_told (drop l.change-index l.changes))
    ≡ l.initial.text.items ++ flat_map (change_line_with (records_in l.old) (records_in l.new)) (changes_told l.changes)

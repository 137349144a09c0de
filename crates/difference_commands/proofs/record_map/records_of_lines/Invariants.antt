use Rattle.std.proofs.Common.{◌≡◌}
use Rattle.console.specs.Lines.{numbered_lines}
use Rattle.difference_commands.specs.RecordLines.{records_of_lines}
use Rattle.difference_commands.specs.Views.{keyed}
use Rattle.difference_commands.proofs.RecordLists.{onto}
use Rattle.difference_commands.proofs.record_map.records_of_lines.Given as goal

abbrev pub invariant-loop-number : goal.invariant-loop-number
invariant-loop-number g l =
    (goal.iterator-loop-number g).can_next l.number-iterator
    × (goal.iterator-loop-number g).is_finite l.number-iterator
    × (records_of_lines (numbered_lines l.fn.input) ≡ onto (keyed l.records.items) (records_of_lines l.number-iterator))

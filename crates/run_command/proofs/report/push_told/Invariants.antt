use Rattle.std.proofs.Common.{◌≡◌, ◌-◌, ◌++◌}
use Rattle.std.specs.List.{flat_map, range_with_len}
use Rattle.run_command.specs.Reports.{told_lines, told_lines_of}
use Rattle.run_command.proofs.report.push_told.Given as goal

abbrev pub invariant-loop-writer : goal.invariant-loop-writer
invariant-loop-writer g l =
    l.text.items ++ flat_map (told_lines_of l.closed.ended) (range_with_len l.writer (l.writers - l.writer)) ≡ l.initial.text.items ++ told_lines l.writers l.closed.ended

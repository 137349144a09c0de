use Rattle.std.proofs.Common.{◌≡◌, ◌++◌, drop}
use Rattle.notices.specs.Numbering.{of}
use Rattle.run_command.specs.Report.{notice_lines}
use Rattle.run_command.proofs.script.report.push_notices_of.Given as goal

abbrev pub invariant-loop-notice : goal.invariant-loop-notice
invariant-loop-notice l =
    l.text.items ++ notice_lines (of l.writer (drop l.notice-index l.notices)) ≡ l.initial.text.items ++ notice_lines (of l.writer l.notices)

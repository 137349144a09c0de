use Rattle.std.proofs.Common.{[], ◌++◌}
use Rattle.run_command.specs.Report.{notice_line, notice_lines}
use Rattle.console.proofs.Pushing.{Left}
use Rattle.run_command.proofs.script.report.push_notices.Given as goal

abbrev pub invariant-loop-notice : goal.invariant-loop-notice
invariant-loop-notice l = Left notice_line l.notices (l.initial.text.items ++ notice_lines l.notices) [] 0 l.text.items l.notice-index

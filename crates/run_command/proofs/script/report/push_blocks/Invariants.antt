use Rattle.std.proofs.Common.{[], ◌++◌}
use Rattle.run_command.specs.Report.{block_line, block_lines}
use Rattle.console.proofs.Pushing.{Left}
use Rattle.run_command.proofs.script.report.push_blocks.Given as goal

abbrev pub invariant-loop-cid : goal.invariant-loop-cid
invariant-loop-cid l = Left block_line l.counts (l.initial.text.items ++ block_lines l.counts) [] 0 l.text.items l.cid-index

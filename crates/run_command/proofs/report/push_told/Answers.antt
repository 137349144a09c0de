use Rattle.run_command.specs.Reports.{told_lines_of}
use Rattle.run_command.proofs.Adding.{one-added, all-added}
use Rattle.run_command.proofs.report.push_told.Goals as goal

pub loop-writer-preserved : goal.loop-writer-preserved
loop-writer-preserved g c =
    one-added (told_lines_of c.args.closed.now.ended) c.loop-writer.text.items _ c.loop-writer.writer c.args.writers c.push_told_by.new.text.items c.loop-writer-test.true
    c.in_ok-push_told_by.ensures c.loop-writer.invariant

pub returns : goal.returns
returns g c =
    all-added (told_lines_of c.args.closed.now.ended) c.loop-writer.text.items _ c.loop-writer.writer c.args.writers c.loop-writer-test.false c.loop-writer.invariant

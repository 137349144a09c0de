use Rattle.run_command.proofs.Adding.{AreAdded}
use Rattle.run_command.proofs.report.push_shown.Given as goal

abbrev pub invariant-loop-number : goal.invariant-loop-number
invariant-loop-number g l =
    AreAdded g.D.Digest.digest_of l.closed.cores l.closed.tables l.number l.initial.text.items l.text.items

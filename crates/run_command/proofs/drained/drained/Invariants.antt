use Rattle.run_command.specs.Draining.{IsDrained}
use Rattle.run_command.proofs.drained.drained.Given as goal

abbrev pub invariant-loop : goal.invariant-loop
invariant-loop g l = IsDrained l.initial.closed l.left.items l.closed

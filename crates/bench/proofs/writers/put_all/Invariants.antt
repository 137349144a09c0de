use Rattle.std.proofs.Common.{◌≡◌}
use Rattle.bench.proofs.writers.put_all.Given as goal

abbrev pub invariant-loop-task : goal.invariant-loop-task
invariant-loop-task g l = l.writer.host ≡ l.fn.writer.host

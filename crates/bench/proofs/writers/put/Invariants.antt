use Rattle.std.proofs.Common.{◌≡◌}
use Rattle.bench.proofs.writers.put.Given as goal

abbrev pub invariant-loop : goal.invariant-loop
invariant-loop g l = l.writer.host ≡ l.fn.writer.host

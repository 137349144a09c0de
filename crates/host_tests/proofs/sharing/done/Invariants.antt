use Rattle.std.proofs.Common.{◌≡◌}
use Rattle.host_tests.proofs.sharing.done.Given as goal

abbrev pub invariant-loop-repo : goal.invariant-loop-repo
invariant-loop-repo g l = l.writer.host ≡ l.fn.writer.host

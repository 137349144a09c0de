use Rattle.std.proofs.Common.{◌≤◌, length}
use Rattle.edit.proofs.edge.count_to.Given as goal

abbrev pub invariant-loop-count : goal.invariant-loop-count
invariant-loop-count g l = l.count ≤ length l.read

abbrev pub decreases-loop-count : goal.decreases-loop-count
decreases-loop-count g l = l.count

use Rattle.std.proofs.Common.{◌+◌, ◌*◌}
use Rattle.tree_tests.proofs.plain.+plain.Given as goal

abbrev pub decreases-node : goal.decreases-node
decreases-node g l = 2 * l.n + 1

abbrev pub decreases-part : goal.decreases-part
decreases-part g l = 2 * l.n

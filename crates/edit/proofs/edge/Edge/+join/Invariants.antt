use Rattle.std.proofs.Common.{length}
use Rattle.edit.proofs.edge.Edge.+join.Given as goal

abbrev pub decreases-join : goal.decreases-join
decreases-join g l = length l.coming.items

use Rattle.std.proofs.Common.{length}
use Rattle.edit.proofs.edge.Edge.+close_below.Given as goal

abbrev pub decreases-close_below : goal.decreases-close_below
decreases-close_below g l = length l.self.now.levels.items

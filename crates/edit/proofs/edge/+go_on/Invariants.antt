use Rattle.std.proofs.Common.{length}
use Rattle.edit.proofs.edge.+go_on.Given as goal

abbrev pub decreases-go_on : goal.decreases-go_on
decreases-go_on g l = length l.levels.now

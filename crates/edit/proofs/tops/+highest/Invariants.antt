use Rattle.std.proofs.Common.{length}
use Rattle.edit.proofs.tops.+highest.Given as goal

abbrev pub decreases-highest : goal.decreases-highest
decreases-highest g l = length l.levels.now

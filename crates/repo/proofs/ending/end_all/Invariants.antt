use Rattle.std.proofs.Common.{vec_len}
use Rattle.repo.proofs.ending.end_all.Given as goal

abbrev pub decreases-loop-core : goal.decreases-loop-core
decreases-loop-core g l = vec_len l.cores

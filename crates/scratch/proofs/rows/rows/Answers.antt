use Rattle.std.proofs.Common.{arith}
use Rattle.std.proofs.lemmas.Grind.{common_steps}
use Rattle.scratch.proofs.rows.rows.Goals as goal

pub fours-preserved : goal.fours-preserved
fours-preserved g c = grind (arith, common_steps)

pub last-preserved : goal.last-preserved
last-preserved g c = grind (arith, common_steps)

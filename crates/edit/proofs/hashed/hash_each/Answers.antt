use Rattle.std.proofs.Common.{arith}
use Rattle.std.proofs.lemmas.Grind.{common_steps}
use Rattle.edit.proofs.hashed.hash_each.Goals as goal

pub last-preserved : goal.last-preserved
last-preserved g c = grind (arith, common_steps)

pub returns : goal.returns
returns g c = grind (arith, common_steps)

pub fours-preserved : goal.fours-preserved
fours-preserved g c = grind (arith, common_steps)

use Rattle.std.proofs.Common.{arith}
use Rattle.std.proofs.lemmas.Grind.{common_steps}
use Rattle.edit.proofs.Halts.{none-goes_on}
use Rattle.edit.proofs.edge.+go_on.Goals as goal

pub returns-in_default : goal.returns-in_default
returns-in_default g t c = none-goes_on c.args.levels.now c.in_default.len_below

pub returns : goal.returns
returns g t c = grind (arith, common_steps)

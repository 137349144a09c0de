use Rattle.std.proofs.Common.{arith}
use Rattle.std.proofs.lemmas.Grind.{common_steps}
use Rattle.edit.proofs.hashed.push_four.Goals as goal

pub returns : goal.returns
returns g c = grind (arith, common_steps)

pub returns-then-count_puts-lt3 : goal.returns-then-count_puts-lt3
returns-then-count_puts-lt3 g c = grind (arith, common_steps)

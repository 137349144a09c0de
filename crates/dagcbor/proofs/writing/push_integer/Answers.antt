use Rattle.std.proofs.Common.{arith}
use Rattle.std.proofs.lemmas.Grind.{common_steps}
use Rattle.dagcbor.proofs.writing.push_integer.Goals as goal

pub returns-then-z-ge0 : goal.returns-then-z-ge0
returns-then-z-ge0 g c = grind (arith, common_steps)

pub returns-else-z-ge0 : goal.returns-else-z-ge0
returns-else-z-ge0 g c = grind (arith, common_steps)

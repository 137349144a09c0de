use Rattle.std.proofs.Common.{arith}
use Rattle.std.proofs.lemmas.Grind.{common_steps}
use Rattle.edit.proofs.edge.Edge.is_written.Goals as goal

pub returns : goal.returns
returns g c = grind (arith, common_steps)

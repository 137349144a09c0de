use Rattle.std.proofs.Common.{arith}
use Rattle.std.proofs.lemmas.Grind.{common_steps}
use Rattle.edit.proofs.edge.Edge.rows.Goals as goal

pub returns-in_err-new : goal.returns-in_err-new
returns-in_err-new g c = grind (arith, common_steps)

pub returns-in_err-alloc : goal.returns-in_err-alloc
returns-in_err-alloc g c = grind (arith, common_steps)

use Rattle.std.proofs.Common.{arith}
use Rattle.std.proofs.lemmas.Grind.{common_steps}
use Rattle.run_command.proofs.report.push_told_by.Goals as goal

pub returns : goal.returns
returns g c = grind (arith, common_steps)

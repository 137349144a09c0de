use Rattle.std.proofs.Common.{arith}
use Rattle.std.proofs.lemmas.Grind.{common_steps}
use Rattle.run_command.proofs.script.report.push_notices_of.Goals as goal

pub loop-notice-preserved : goal.loop-notice-preserved
loop-notice-preserved c = grind (arith, common_steps)

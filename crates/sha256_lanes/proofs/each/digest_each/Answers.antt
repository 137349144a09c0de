use Rattle.std.proofs.Common.{arith}
use Rattle.std.proofs.lemmas.Grind.{common_steps}
use Rattle.sha256_lanes.proofs.each.digest_each.Goals as goal

pub fours-preserved : goal.fours-preserved
fours-preserved g c = grind (arith, common_steps)

use Rattle.std.proofs.Common.{arith}
use Rattle.std.proofs.lemmas.Grind.{common_steps}
use Rattle.sha256_lanes.proofs.blocks.block_count.Goals as goal

pub returns-else-len-lt56-clause-value : goal.returns-else-len-lt56-clause-value
returns-else-len-lt56-clause-value c = grind (arith, common_steps)

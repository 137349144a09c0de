use Rattle.std.proofs.Common.{rules}
use Rattle.lookups.proofs.block_map.BlockMap.reads.Goals as goal

pub returns : goal.returns
returns g c = search rules

use Rattle.std.proofs.Common.{rules}
use Rattle.block.proofs.write.Write.key.Goals as goal

pub returns : goal.returns
returns g c = search rules

use Rattle.std.proofs.Common.{rules}
use Rattle.block.proofs.write.Write.share.Goals as goal

pub returns : goal.returns
returns g c = search rules

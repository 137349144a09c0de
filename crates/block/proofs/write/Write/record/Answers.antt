use Rattle.std.proofs.Common.{rules}
use Rattle.block.proofs.write.Write.record.Goals as goal

pub returns-in-Delete : goal.returns-in-Delete
returns-in-Delete g c = search rules

use Rattle.std.proofs.Common.{rules}
use Rattle.export.proofs.to_memory.ToMemory.over.Goals as goal

pub returns : goal.returns
returns g c = search rules

use Rattle.std.proofs.Common.{rules}
use Rattle.batches.proofs.fault.RepoFaultFromStoreFault.from.Goals as goal

pub returns-in-NoMemory : goal.returns-in-NoMemory
returns-in-NoMemory g c = search rules

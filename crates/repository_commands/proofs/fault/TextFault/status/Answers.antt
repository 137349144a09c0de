use Rattle.std.proofs.Common.{rules}
use Rattle.repository_commands.proofs.fault.TextFault.status.Goals as goal

pub returns-in-NoMemory-clause-status : goal.returns-in-NoMemory-clause-status
returns-in-NoMemory-clause-status g c = search rules

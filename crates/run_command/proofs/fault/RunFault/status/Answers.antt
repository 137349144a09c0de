use Rattle.std.proofs.Common.{rules}
use Rattle.run_command.proofs.fault.RunFault.status.Goals as goal

pub returns-in-NoMemory-clause-status : goal.returns-in-NoMemory-clause-status
returns-in-NoMemory-clause-status c = search rules

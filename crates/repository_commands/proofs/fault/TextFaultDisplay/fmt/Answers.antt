use Rattle.std.proofs.Common.{rules}
use Rattle.repository_commands.proofs.fault.TextFaultDisplay.fmt.Goals as goal

pub returns-in-Line-clause-writes : goal.returns-in-Line-clause-writes
returns-in-Line-clause-writes g c = search rules

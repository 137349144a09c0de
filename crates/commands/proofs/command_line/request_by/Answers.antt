use Rattle.std.proofs.Common.{rules}
use Rattle.commands.proofs.command_line.request_by.Goals as goal

pub returns-in-Some-command_of : goal.returns-in-Some-command_of
returns-in-Some-command_of c = search rules

use Rattle.std.proofs.Common.{rules}
use Rattle.repository_commands.proofs.words.command_of.Goals as goal

pub returns-then-eq-3-clause-command : goal.returns-then-eq-3-clause-command
returns-then-eq-3-clause-command c = search rules

pub returns-clause-none : goal.returns-clause-none
returns-clause-none c = search rules

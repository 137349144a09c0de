use Rattle.std.proofs.Common.{rules}
use Rattle.repository_commands.proofs.car.check_stamp.Goals as goal

pub returns-then-not-is_tid-clause-words : goal.returns-then-not-is_tid-clause-words
returns-then-not-is_tid-clause-words g c = search rules

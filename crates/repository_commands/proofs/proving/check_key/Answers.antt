use Rattle.std.proofs.Common.{rules}
use Rattle.repository_commands.proofs.proving.check_key.Goals as goal

pub returns-then-not-is_key-clause-words : goal.returns-then-not-is_key-clause-words
returns-then-not-is_key-clause-words g c = search rules

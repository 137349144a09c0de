use Rattle.std.proofs.Common.{rules}
use Rattle.repository_commands.proofs.filling.number_at.Goals as goal

pub returns : goal.returns
returns c = search rules

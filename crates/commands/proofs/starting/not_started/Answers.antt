use Rattle.std.proofs.Common.{rules}
use Rattle.commands.proofs.starting.not_started.Goals as goal

pub returns-clause-other : goal.returns-clause-other
returns-clause-other g c = search rules

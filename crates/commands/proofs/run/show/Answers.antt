use Rattle.std.proofs.Common.{rules}
use Rattle.commands.proofs.run.show.Goals as goal

pub returns-then-use_stderr-clause-nothing : goal.returns-then-use_stderr-clause-nothing
returns-then-use_stderr-clause-nothing g c = search rules

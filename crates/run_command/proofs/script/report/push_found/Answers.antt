use Rattle.std.proofs.Common.{rules}
use Rattle.run_command.proofs.script.report.push_found.Goals as goal

pub returns : goal.returns
returns c = search rules

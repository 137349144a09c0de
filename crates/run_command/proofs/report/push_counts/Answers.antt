use Rattle.std.proofs.Common.{rules}
use Rattle.run_command.proofs.report.push_counts.Goals as goal

pub returns : goal.returns
returns g c = search rules

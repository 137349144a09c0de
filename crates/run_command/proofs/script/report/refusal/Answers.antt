use Rattle.std.proofs.Common.{rules}
use Rattle.run_command.proofs.script.report.refusal.Goals as goal

pub returns-in-Refused : goal.returns-in-Refused
returns-in-Refused g c = search rules

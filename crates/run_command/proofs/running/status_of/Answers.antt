use Rattle.std.proofs.Common.{rules}
use Rattle.run_command.proofs.running.status_of.Goals as goal

pub returns-in-Err-clause-status : goal.returns-in-Err-clause-status
returns-in-Err-clause-status g c = search rules

pub returns-in-Err-clause-quiet : goal.returns-in-Err-clause-quiet
returns-in-Err-clause-quiet g c = search rules

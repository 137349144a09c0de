use Rattle.std.proofs.Common.{rules}
use Rattle.run_command.proofs.script.tokens.worker_of.Goals as goal

pub returns-then-worker-workers-clause-value : goal.returns-then-worker-workers-clause-value
returns-then-worker-workers-clause-value c = search rules

pub returns-then-worker-workers-clause-below : goal.returns-then-worker-workers-clause-below
returns-then-worker-workers-clause-below c = search rules

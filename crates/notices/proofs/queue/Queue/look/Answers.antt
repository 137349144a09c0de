use Rattle.std.proofs.Common.{rules}
use Rattle.notices.proofs.queue.Queue.look.Goals as goal

pub returns-clause-distinct : goal.returns-clause-distinct
returns-clause-distinct g c = search rules

pub returns-clause-each : goal.returns-clause-each
returns-clause-each g c = search rules

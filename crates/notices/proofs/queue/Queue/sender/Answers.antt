use Rattle.std.proofs.Common.{rules}
use Rattle.notices.proofs.queue.Queue.sender.Goals as goal

pub returns-clause-refused : goal.returns-clause-refused
returns-clause-refused g c = search rules

use Rattle.std.proofs.Common.{rules}
use Rattle.notices.proofs.queue.Queue.join.Goals as goal

pub returns : goal.returns
returns g c = search rules

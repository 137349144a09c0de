use Rattle.std.proofs.Common.{rules}
use Rattle.notices.proofs.queue.Queue.taker.Goals as goal

pub returns : goal.returns
returns g c = search rules

use Rattle.notices.proofs.Told.{merges_as}
use Rattle.notices.proofs.queue.Queue.take_in.Goals as goal

pub absorb-requires-clause-rule : goal.absorb-requires-clause-rule
absorb-requires-clause-rule g c = merges_as _ _ _ _ _ c.feed.invariant.1 c.pass.invariant.1

use Rattle.std.proofs.Common.{rules}
use Rattle.notices.proofs.Told.{forks_as}
use Rattle.notices.proofs.queue.Queue.make_pass.Goals as goal

pub another-ticket-requires-clause-rule : goal.another-ticket-requires-clause-rule
another-ticket-requires-clause-rule g c = forks_as _ _ c.feed.invariant.1

pub invariant_of-result : goal.invariant_of-result
invariant_of-result g c = search rules

pub returns-clause-pass : goal.returns-clause-pass
returns-clause-pass g c = search rules

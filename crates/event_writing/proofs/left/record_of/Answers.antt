use Rattle.event_writing.proofs.AtSource.{lent-at}
use Rattle.event_writing.proofs.left.record_of.Goals as goal

pub returns-in-Some-clause-found : goal.returns-in-Some-clause-found
returns-in-Some-clause-found g c = lent-at (λ x. x.now) c.get.result _ c.args.cid.now _ c.in-Some.is c.get.ensures.found

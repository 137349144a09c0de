use Rattle.batches.proofs.LastStamps.{some-stamp}
use Rattle.batches.proofs.stamps.last_stamp.Goals as goal

pub returns-in-Some : goal.returns-in-Some
returns-in-Some g c = some-stamp c.args.stamps.now c.in-Some.field-0.now c.in-Some.ensures.value

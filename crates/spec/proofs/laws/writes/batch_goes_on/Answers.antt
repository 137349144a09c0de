use Rattle.spec.proofs.BatchSteps.{batch-goes_on}
use Rattle.spec.proofs.laws.writes.batch_goes_on.Goals as goal

pub returns : goal.returns
returns c = batch-goes_on

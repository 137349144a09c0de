use Rattle.spec.proofs.BatchSteps.{batch-ends}
use Rattle.spec.proofs.laws.writes.batch_ends.Goals as goal

pub returns : goal.returns
returns c = batch-ends

use Rattle.spec.proofs.BatchSteps.{test-by_value}
use Rattle.spec.proofs.laws.writes.test_is_by_value.Goals as goal

pub returns : goal.returns
returns c = test-by_value

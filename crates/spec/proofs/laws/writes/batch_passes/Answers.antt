use Rattle.spec.proofs.BatchLaws.{EachPasses-from_test, test-from_EachPasses}
use Rattle.spec.proofs.laws.writes.batch_passes.Goals as goal

pub returns : goal.returns
returns c = λ limit accepted batch. (EachPasses-from_test limit accepted batch, test-from_EachPasses limit accepted batch)

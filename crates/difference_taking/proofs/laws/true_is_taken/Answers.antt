use Rattle.difference_taking.proofs.Passing.{true-taken}
use Rattle.difference_taking.proofs.laws.true_is_taken.Goals as goal

pub returns : goal.returns
returns c = true-taken

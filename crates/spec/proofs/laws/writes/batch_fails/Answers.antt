use Rattle.spec.proofs.BatchLaws.{IsFirstRefused-from_test, test-from_IsFirstRefused}
use Rattle.spec.proofs.laws.writes.batch_fails.Goals as goal

pub returns : goal.returns
returns c = λ limit accepted batch i fault. (IsFirstRefused-from_test limit accepted batch i fault, test-from_IsFirstRefused limit accepted batch i fault)

use Rattle.batch_laws.proofs.WritesAtOnce.{test-is_by_changes}
use Rattle.batch_laws.proofs.collecting.test_is_by_changes.Goals as goal

pub returns : goal.returns
returns c = test-is_by_changes

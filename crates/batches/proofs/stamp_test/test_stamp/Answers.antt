use Rattle.std.proofs.Common.{rules}
use Rattle.batches.proofs.stamp_test.test_stamp.Goals as goal

pub returns-clause-passed : goal.returns-clause-passed
returns-clause-passed g c = search rules

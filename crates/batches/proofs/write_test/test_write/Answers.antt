use Rattle.std.proofs.Common.{rules}
use Rattle.batches.proofs.write_test.test_write.Goals as goal

pub returns-in_default-write-clause-passed : goal.returns-in_default-write-clause-passed
returns-in_default-write-clause-passed g c = search rules

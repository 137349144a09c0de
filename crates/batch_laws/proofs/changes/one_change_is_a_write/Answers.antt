use Rattle.batch_laws.proofs.OneByOne.{one-is_write}
use Rattle.batch_laws.proofs.changes.one_change_is_a_write.Goals as goal

pub returns : goal.returns
returns c = one-is_write

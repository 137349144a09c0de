use Rattle.batch_laws.proofs.Single.{one-delete_is_short}
use Rattle.batch_laws.proofs.reads.one_delete_is_short.Goals as goal

pub returns : goal.returns
returns c = one-delete_is_short

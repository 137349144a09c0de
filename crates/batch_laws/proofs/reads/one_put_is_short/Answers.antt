use Rattle.batch_laws.proofs.Single.{one-put_is_short}
use Rattle.batch_laws.proofs.reads.one_put_is_short.Goals as goal

pub returns : goal.returns
returns c = one-put_is_short

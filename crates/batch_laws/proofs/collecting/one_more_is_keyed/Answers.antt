use Rattle.batch_laws.proofs.WritesAtOnce.{one_more-keyed}
use Rattle.batch_laws.proofs.collecting.one_more_is_keyed.Goals as goal

pub returns : goal.returns
returns c = one_more-keyed

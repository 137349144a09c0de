use Rattle.batch_laws.proofs.WritesAtOnce.{one_more-collected}
use Rattle.batch_laws.proofs.collecting.one_more_is_collected.Goals as goal

pub returns : goal.returns
returns c = one_more-collected

use Rattle.batch_laws.proofs.WritesAtOnce.{collected-are_keyed}
use Rattle.batch_laws.proofs.collecting.collected_are_keyed.Goals as goal

pub returns : goal.returns
returns c = collected-are_keyed

use Rattle.batch_laws.proofs.WritesAtOnce.{value-is_changed}
use Rattle.batch_laws.proofs.collecting.value_is_changed.Goals as goal

pub returns : goal.returns
returns c = value-is_changed

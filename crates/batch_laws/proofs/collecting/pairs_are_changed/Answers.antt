use Rattle.batch_laws.proofs.RecordChanges.{pairs-are_changed}
use Rattle.batch_laws.proofs.collecting.pairs_are_changed.Goals as goal

pub returns : goal.returns
returns c = pairs-are_changed

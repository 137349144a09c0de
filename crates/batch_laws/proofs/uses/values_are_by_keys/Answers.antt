use Rattle.batch_laws.proofs.RecordChanges.{values-are_by_keys}
use Rattle.batch_laws.proofs.uses.values_are_by_keys.Goals as goal

pub returns : goal.returns
returns c = values-are_by_keys

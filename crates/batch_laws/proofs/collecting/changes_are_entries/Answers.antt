use Rattle.batch_laws.proofs.ChangeMaps.{changes-are_entries}
use Rattle.batch_laws.proofs.collecting.changes_are_entries.Goals as goal

pub returns : goal.returns
returns c = changes-are_entries

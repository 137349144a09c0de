use Rattle.batch_laws.proofs.Collected.{collected-goes_on}
use Rattle.batch_laws.proofs.changes.collected_changes_go_on.Goals as goal

pub returns : goal.returns
returns c = collected-goes_on

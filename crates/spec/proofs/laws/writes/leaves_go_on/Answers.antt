use Rattle.spec.proofs.BatchSteps.{leaves-go_on}
use Rattle.spec.proofs.laws.writes.leaves_go_on.Goals as goal

pub returns : goal.returns
returns c = leaves-go_on

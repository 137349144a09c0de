use Rattle.batch_laws.proofs.Lawful.{batch-goes_on}
use Rattle.batch_laws.proofs.written.steps_go_on.Goals as goal

pub returns : goal.returns
returns c = batch-goes_on

use Rattle.batch_laws.proofs.MakesFew.{batch-makes_few}
use Rattle.batch_laws.proofs.reads.batch_makes_few.Goals as goal

pub returns : goal.returns
returns c = batch-makes_few

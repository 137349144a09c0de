use Rattle.batch_laws.proofs.Lawful.{batch-is_lawful}
use Rattle.batch_laws.proofs.written.made_nodes_are_lawful.Goals as goal

pub returns : goal.returns
returns c = batch-is_lawful

use Rattle.batch_laws.proofs.Lawful.{batch-has_keys}
use Rattle.batch_laws.proofs.written.made_nodes_have_keys.Goals as goal

pub returns : goal.returns
returns c = batch-has_keys

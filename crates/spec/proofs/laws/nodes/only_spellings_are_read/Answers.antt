use Rattle.spec.proofs.NodeTakes.{read_node_takes}
use Rattle.spec.proofs.laws.nodes.only_spellings_are_read.Goals as goal

pub returns : goal.returns
returns c = read_node_takes

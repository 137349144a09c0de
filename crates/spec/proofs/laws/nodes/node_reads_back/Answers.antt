use Rattle.spec.proofs.NodeLaws.{read_node-node_spelling}
use Rattle.spec.proofs.laws.nodes.node_reads_back.Goals as goal

pub returns : goal.returns
returns c = read_node-node_spelling

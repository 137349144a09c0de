use Rattle.spec.proofs.NodeValues.{spelling-node, lawful-node}
use Rattle.spec.proofs.laws.nodes.node_is_dag_cbor.Goals as goal

pub returns : goal.returns
returns c = λ left es is. (spelling-node left es is, lawful-node left es is)

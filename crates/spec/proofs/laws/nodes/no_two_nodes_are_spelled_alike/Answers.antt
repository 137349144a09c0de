use Rattle.spec.proofs.SameTree.{same_node_spelling}
use Rattle.spec.proofs.laws.nodes.no_two_nodes_are_spelled_alike.Goals as goal

pub returns : goal.returns
returns c = same_node_spelling

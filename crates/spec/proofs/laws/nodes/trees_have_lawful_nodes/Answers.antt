use Rattle.spec.proofs.TreeNodes.{EachNode-top}
use Rattle.spec.proofs.laws.nodes.trees_have_lawful_nodes.Goals as goal

pub returns : goal.returns
returns c = λ digest layer es fits are. EachNode-top digest layer fits es are

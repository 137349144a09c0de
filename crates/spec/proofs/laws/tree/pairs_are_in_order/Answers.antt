use Rattle.spec.proofs.TreeLaws.{pairs-top}
use Rattle.spec.proofs.laws.tree.pairs_are_in_order.Goals as goal

pub returns : goal.returns
returns c = pairs-top

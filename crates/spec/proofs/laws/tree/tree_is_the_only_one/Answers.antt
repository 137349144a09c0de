use Rattle.spec.proofs.LayeredTrees.{only-top}
use Rattle.spec.proofs.laws.tree.tree_is_the_only_one.Goals as goal

pub returns : goal.returns
returns c = only-top

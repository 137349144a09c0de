use Rattle.spec.proofs.LayeredTrees.{HasPairs-top}
use Rattle.spec.proofs.laws.tree.no_subtree_is_empty.Goals as goal

pub returns : goal.returns
returns c = HasPairs-top

use Rattle.spec.proofs.LayeredTrees.{HasLayer-top}
use Rattle.spec.proofs.laws.tree.links_go_down_one_layer.Goals as goal

pub returns : goal.returns
returns c = HasLayer-top

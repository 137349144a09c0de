use Rattle.edit_laws.proofs.WalkRanges.{ranges-are_nodes}
use Rattle.edit_laws.proofs.walks.ranges_are_of_the_nodes.Goals as goal

pub returns : goal.returns
returns c = ranges-are_nodes

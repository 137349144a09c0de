use Rattle.batch_laws.proofs.Walks.{batch-is_top}
use Rattle.batch_laws.proofs.trees.batch_is_the_tree_from_scratch.Goals as goal

pub returns : goal.returns
returns c = batch-is_top

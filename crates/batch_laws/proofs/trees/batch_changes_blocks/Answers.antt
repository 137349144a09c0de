use Rattle.batch_laws.proofs.Blocks.{batch-changes_blocks}
use Rattle.batch_laws.proofs.trees.batch_changes_blocks.Goals as goal

pub returns : goal.returns
returns c = batch-changes_blocks

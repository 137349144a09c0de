use Rattle.spec.proofs.RepositoryBlocks.{block-sets}
use Rattle.spec.proofs.laws.blocks.blocks_are_these_sets.Goals as goal

pub returns : goal.returns
returns c = block-sets

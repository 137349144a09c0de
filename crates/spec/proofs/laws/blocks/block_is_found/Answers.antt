use Rattle.spec.proofs.RepositoryBlocks.{block-is_found}
use Rattle.spec.proofs.laws.blocks.block_is_found.Goals as goal

pub returns : goal.returns
returns c = block-is_found

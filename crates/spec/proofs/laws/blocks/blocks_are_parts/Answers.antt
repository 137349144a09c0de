use Rattle.spec.proofs.RepositoryBlocks.{blocks-parts}
use Rattle.spec.proofs.laws.blocks.blocks_are_parts.Goals as goal

pub returns : goal.returns
returns c = blocks-parts

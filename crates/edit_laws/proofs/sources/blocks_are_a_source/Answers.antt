use Rattle.edit_laws.proofs.BlockSources.{blocks-source}
use Rattle.edit_laws.proofs.sources.blocks_are_a_source.Goals as goal

pub returns : goal.returns
returns c = blocks-source

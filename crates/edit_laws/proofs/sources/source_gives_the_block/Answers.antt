use Rattle.edit_laws.proofs.BlockSources.{source-gives}
use Rattle.edit_laws.proofs.sources.source_gives_the_block.Goals as goal

pub returns : goal.returns
returns c = source-gives

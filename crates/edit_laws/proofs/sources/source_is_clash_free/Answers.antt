use Rattle.edit_laws.proofs.BlockSources.{source-free}
use Rattle.edit_laws.proofs.sources.source_is_clash_free.Goals as goal

pub returns : goal.returns
returns c = source-free

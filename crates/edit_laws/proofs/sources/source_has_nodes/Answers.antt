use Rattle.edit_laws.proofs.BlockSources.{source-nodes}
use Rattle.edit_laws.proofs.sources.source_has_nodes.Goals as goal

pub returns : goal.returns
returns c = source-nodes

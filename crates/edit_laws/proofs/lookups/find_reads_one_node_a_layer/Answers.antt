use Rattle.edit_laws.proofs.LookupTheorems.{find-reads_layers}
use Rattle.edit_laws.proofs.lookups.find_reads_one_node_a_layer.Goals as goal

pub returns : goal.returns
returns c = find-reads_layers

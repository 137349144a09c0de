use Rattle.record_json.proofs.ReadsBack.{value_of_tree-tree_of}
use Rattle.record_json.proofs.laws.tree_reads_back.Goals as goal

pub returns : goal.returns
returns c = value_of_tree-tree_of

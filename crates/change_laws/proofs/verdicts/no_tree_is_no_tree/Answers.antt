use Rattle.change_laws.proofs.Missing.{not_tree-is_beyond}
use Rattle.change_laws.proofs.verdicts.no_tree_is_no_tree.Goals as goal

pub returns : goal.returns
returns c = not_tree-is_beyond

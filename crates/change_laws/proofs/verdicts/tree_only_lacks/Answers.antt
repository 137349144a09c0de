use Rattle.change_laws.proofs.Partial.{tree-only_lacks}
use Rattle.change_laws.proofs.verdicts.tree_only_lacks.Goals as goal

pub returns : goal.returns
returns c = tree-only_lacks

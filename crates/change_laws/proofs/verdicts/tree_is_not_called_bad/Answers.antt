use Rattle.change_laws.proofs.Unblamed.{tree-only_missing}
use Rattle.change_laws.proofs.verdicts.tree_is_not_called_bad.Goals as goal

pub returns : goal.returns
returns c = tree-only_missing

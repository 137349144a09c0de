use Rattle.change_laws.proofs.Undone.{old-is_undone}
use Rattle.change_laws.proofs.verdicts.old_pairs_are_the_undone.Goals as goal

pub returns : goal.returns
returns c = old-is_undone

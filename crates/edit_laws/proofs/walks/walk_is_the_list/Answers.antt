use Rattle.edit_laws.proofs.WalkTheorems.{walk-is_listed}
use Rattle.edit_laws.proofs.walks.walk_is_the_list.Goals as goal

pub returns : goal.returns
returns c = walk-is_listed

use Rattle.edit_laws.proofs.WalkTheorems.{walk-bound}
use Rattle.edit_laws.proofs.walks.walk_is_bounded.Goals as goal

pub returns : goal.returns
returns c = walk-bound

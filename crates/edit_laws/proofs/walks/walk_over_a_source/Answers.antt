use Rattle.edit_laws.proofs.WalkTheorems.{walk-over_source}
use Rattle.edit_laws.proofs.walks.walk_over_a_source.Goals as goal

pub returns : goal.returns
returns c = walk-over_source

use Rattle.edit_laws.proofs.WalkRanges.{ranges-hold_keys}
use Rattle.edit_laws.proofs.walks.ranges_hold_the_keys.Goals as goal

pub returns : goal.returns
returns c = ranges-hold_keys

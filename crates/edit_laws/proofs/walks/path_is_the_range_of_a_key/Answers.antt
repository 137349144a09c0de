use Rattle.edit_laws.proofs.WalkRanges.{path-is_range}
use Rattle.edit_laws.proofs.walks.path_is_the_range_of_a_key.Goals as goal

pub returns : goal.returns
returns c = path-is_range

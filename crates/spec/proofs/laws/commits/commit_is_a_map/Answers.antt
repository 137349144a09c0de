use Rattle.spec.proofs.StateLaws.{commit-map}
use Rattle.spec.proofs.laws.commits.commit_is_a_map.Goals as goal

pub returns : goal.returns
returns c = commit-map

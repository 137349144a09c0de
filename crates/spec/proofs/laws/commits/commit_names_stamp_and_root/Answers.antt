use Rattle.spec.proofs.CommitLaws.{commit-names}
use Rattle.spec.proofs.laws.commits.commit_names_stamp_and_root.Goals as goal

pub returns : goal.returns
returns c = commit-names

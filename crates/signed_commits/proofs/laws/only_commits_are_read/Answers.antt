use Rattle.signed_commits.proofs.CommitLaws.{only-commits}
use Rattle.signed_commits.proofs.laws.only_commits_are_read.Goals as goal

pub returns : goal.returns
returns c = only-commits

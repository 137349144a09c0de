use Rattle.signed_commits.proofs.CommitLaws.{commit-reads_back}
use Rattle.signed_commits.proofs.laws.commit_reads_back.Goals as goal

pub returns : goal.returns
returns c = commit-reads_back

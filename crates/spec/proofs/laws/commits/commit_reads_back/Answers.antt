use Rattle.spec.proofs.CommitLaws.{commit-reads_back}
use Rattle.spec.proofs.laws.commits.commit_reads_back.Goals as goal

pub returns : goal.returns
returns c = commit-reads_back

use Rattle.signed_commits.proofs.CommitLaws.{signs-unsigned}
use Rattle.signed_commits.proofs.laws.signs_unsigned.Goals as goal

pub returns : goal.returns
returns c = signs-unsigned

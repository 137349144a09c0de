use Rattle.spec.proofs.HeadLaws.{head_at-head}
use Rattle.spec.proofs.laws.heads.head_reads_back.Goals as goal

pub returns : goal.returns
returns c = head_at-head

use Rattle.spec.proofs.HeadLaws.{head_takes}
use Rattle.spec.proofs.laws.heads.only_heads_are_read.Goals as goal

pub returns : goal.returns
returns c = λ bytes rest m n fits small read. let t = head_takes bytes m n rest fits small read in (t.0.parts, t.1)

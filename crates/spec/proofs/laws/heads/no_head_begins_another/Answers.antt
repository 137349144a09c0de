use Rattle.spec.proofs.HeadLaws.{head-one_form}
use Rattle.spec.proofs.laws.heads.no_head_begins_another.Goals as goal

pub returns : goal.returns
returns c = head-one_form

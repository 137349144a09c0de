use Rattle.spec.proofs.StampLaws.{stamps-ascend}
use Rattle.spec.proofs.laws.states.stamps_ascend.Goals as goal

pub returns : goal.returns
returns c = stamps-ascend

use Rattle.spec.proofs.Once.{firsts-nodes}
use Rattle.spec.proofs.laws.once.nodes_stand_once.Goals as goal

pub returns : goal.returns
returns c = λ digest bits es fits. firsts-nodes digest bits fits es

use Rattle.spec.proofs.StateLaws.{batch-keeps_state}
use Rattle.spec.proofs.laws.states.batch_keeps_state.Goals as goal

pub returns : goal.returns
returns c = batch-keeps_state

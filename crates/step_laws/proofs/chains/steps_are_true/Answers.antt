use Rattle.step_laws.proofs.Chaining.{steps-true}
use Rattle.step_laws.proofs.chains.steps_are_true.Goals as goal

pub returns : goal.returns
returns c = steps-true

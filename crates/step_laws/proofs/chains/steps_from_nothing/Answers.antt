use Rattle.step_laws.proofs.Chaining.{steps-from_nothing}
use Rattle.step_laws.proofs.chains.steps_from_nothing.Goals as goal

pub returns : goal.returns
returns c = steps-from_nothing

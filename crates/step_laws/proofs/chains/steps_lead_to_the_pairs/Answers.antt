use Rattle.step_laws.proofs.Chaining.{steps-lead_to}
use Rattle.step_laws.proofs.chains.steps_lead_to_the_pairs.Goals as goal

pub returns : goal.returns
returns c = steps-lead_to

use Rattle.step_laws.proofs.Stepping.{step-missing_is_missing}
use Rattle.step_laws.proofs.steps.missing_in_a_step_is_not_given.Goals as goal

pub returns : goal.returns
returns c = step-missing_is_missing

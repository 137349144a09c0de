use Rattle.step_laws.proofs.Stepping.{step-faults_are_so}
use Rattle.step_laws.proofs.steps.step_faults_are_so.Goals as goal

pub returns : goal.returns
returns c = step-faults_are_so

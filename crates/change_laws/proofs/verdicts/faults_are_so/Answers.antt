use Rattle.change_laws.proofs.Faults.{faults-are_so}
use Rattle.change_laws.proofs.verdicts.faults_are_so.Goals as goal

pub returns : goal.returns
returns c = faults-are_so

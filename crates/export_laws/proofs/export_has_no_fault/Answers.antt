use Rattle.export_laws.proofs.NoFault.{export-no_fault}
use Rattle.export_laws.proofs.export_has_no_fault.Goals as goal

pub returns : goal.returns
returns c = export-no_fault

use Rattle.checked_opening.proofs.Openable.{export-openable}
use Rattle.checked_opening.proofs.laws.export_is_openable.Goals as goal

pub returns : goal.returns
returns c = export-openable

use Rattle.export_laws.proofs.OfOne.{export-of_one}
use Rattle.export_laws.proofs.export_is_of_one.Goals as goal

pub returns : goal.returns
returns c = export-of_one

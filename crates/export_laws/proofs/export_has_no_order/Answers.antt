use Rattle.export_laws.proofs.NoOrder.{export-no_order}
use Rattle.export_laws.proofs.export_has_no_order.Goals as goal

pub returns : goal.returns
returns c = export-no_order

use Rattle.export_laws.proofs.SignedCars.{signed-export}
use Rattle.export_laws.proofs.signed_car_is_export.Goals as goal

pub returns : goal.returns
returns c = signed-export

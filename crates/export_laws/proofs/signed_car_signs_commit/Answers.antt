use Rattle.export_laws.proofs.SignedCars.{signs-commit}
use Rattle.export_laws.proofs.signed_car_signs_commit.Goals as goal

pub returns : goal.returns
returns c = signs-commit

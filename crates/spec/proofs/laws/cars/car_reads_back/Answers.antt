use Rattle.spec.proofs.CarLaws.{car-reads_back}
use Rattle.spec.proofs.laws.cars.car_reads_back.Goals as goal

pub returns : goal.returns
returns c = car-reads_back

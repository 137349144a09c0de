use Rattle.spec.proofs.CarLaws.{only-cars}
use Rattle.spec.proofs.laws.cars.only_cars_are_read.Goals as goal

pub returns : goal.returns
returns c = only-cars

use Rattle.spec.proofs.CarLaws.{export-reads_back}
use Rattle.spec.proofs.laws.cars.export_reads_back.Goals as goal

pub returns : goal.returns
returns c = export-reads_back

use Rattle.spec.proofs.BatchLaws.{lawful-after_batch}
use Rattle.spec.proofs.laws.writes.batch_keeps_lawful.Goals as goal

pub returns : goal.returns
returns c = lawful-after_batch

use Rattle.batch_laws.proofs.ChangedUses.{records-come}
use Rattle.batch_laws.proofs.uses.records_come.Goals as goal

pub returns : goal.returns
returns c = records-come

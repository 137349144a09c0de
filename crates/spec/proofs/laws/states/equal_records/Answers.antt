use Rattle.spec.proofs.StateLaws.{equal-records}
use Rattle.spec.proofs.laws.states.equal_records.Goals as goal

pub returns : goal.returns
returns c = equal-records

use Rattle.spec.proofs.RecordPairs.{value-record}
use Rattle.spec.proofs.laws.blocks.value_is_of_the_record.Goals as goal

pub returns : goal.returns
returns c = value-record

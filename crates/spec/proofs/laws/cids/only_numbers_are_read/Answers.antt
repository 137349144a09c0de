use Rattle.spec.proofs.VarintLaws.{varint_at_takes}
use Rattle.spec.proofs.laws.cids.only_numbers_are_read.Goals as goal

pub returns : goal.returns
returns c = varint_at_takes

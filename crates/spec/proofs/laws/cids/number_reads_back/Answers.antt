use Rattle.spec.proofs.VarintLaws.{varint_at-varint}
use Rattle.spec.proofs.laws.cids.number_reads_back.Goals as goal

pub returns : goal.returns
returns c = varint_at-varint

use Rattle.spec.proofs.DagCborLaws.{read-spelling}
use Rattle.spec.proofs.laws.dagcbor.value_reads_back.Goals as goal

pub returns : goal.returns
returns c = read-spelling

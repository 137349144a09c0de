use Rattle.spec.proofs.DagCborTakes.{read_takes}
use Rattle.spec.proofs.laws.dagcbor.only_spellings_are_read.Goals as goal

pub returns : goal.returns
returns c = read_takes

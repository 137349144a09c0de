use Rattle.spec.proofs.StateLaws.{stamp-then_writes}
use Rattle.spec.proofs.laws.states.stamp_then_writes.Goals as goal

pub returns : goal.returns
returns c = stamp-then_writes

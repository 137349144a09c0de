use Rattle.batch_laws.proofs.WritesAtOnce.{writes-are_collected}
use Rattle.batch_laws.proofs.collecting.writes_are_collected.Goals as goal

pub returns : goal.returns
returns c = writes-are_collected

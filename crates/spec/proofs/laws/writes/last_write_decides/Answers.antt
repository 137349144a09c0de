use Rattle.spec.proofs.WriteLaws.{find-leaves}
use Rattle.spec.proofs.laws.writes.last_write_decides.Goals as goal

pub returns : goal.returns
returns c = find-leaves

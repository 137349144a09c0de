use Rattle.edit_laws.proofs.WalkTheorems.{walk-reads_range}
use Rattle.edit_laws.proofs.walks.walk_reads_its_range.Goals as goal

pub returns : goal.returns
returns c = walk-reads_range

use Rattle.edit_laws.proofs.OverSource.{shape_of_bytes-shape_bytes}
use Rattle.edit_laws.proofs.lookups.shape_reads_back.Goals as goal

pub returns : goal.returns
returns c = shape_of_bytes-shape_bytes

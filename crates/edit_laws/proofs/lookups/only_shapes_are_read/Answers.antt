use Rattle.edit_laws.proofs.OverSource.{shape_bytes-shape_of_bytes}
use Rattle.edit_laws.proofs.lookups.only_shapes_are_read.Goals as goal

pub returns : goal.returns
returns c = shape_bytes-shape_of_bytes

use Rattle.std.proofs.Common.{rules}
use Rattle.batches.proofs.stamp.Stamp.copied.Goals as goal

pub returns : goal.returns
returns g c = search rules

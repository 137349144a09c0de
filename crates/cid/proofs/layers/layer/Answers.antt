use Rattle.std.proofs.Common.{rules}
use Rattle.cid.proofs.layers.layer.Goals as goal

pub returns : goal.returns
returns g c = search rules

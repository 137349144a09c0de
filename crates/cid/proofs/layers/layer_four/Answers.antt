use Rattle.std.proofs.Common.{rules}
use Rattle.cid.proofs.layers.layer_four.Goals as goal

pub returns : goal.returns
returns g c = search rules

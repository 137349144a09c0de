use Rattle.std.proofs.Common.{rules}
use Rattle.spec.specs.Cid.{cid}
use Rattle.cid.proofs.cid.Cid.of.Goals as goal

pub returns : goal.returns
unfolding cid
returns g c = search rules

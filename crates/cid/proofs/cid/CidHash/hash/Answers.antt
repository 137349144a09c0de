use Rattle.std.proofs.Common.{rules}
use Rattle.cid.proofs.cid.CidHash.hash.Goals as goal

pub returns : goal.returns
returns g c = search rules

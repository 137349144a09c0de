use Rattle.std.proofs.Common.{rules}
use Rattle.cid.proofs.digest.Digest.digest_four.Goals as goal

pub returns : goal.returns
returns g c = search rules

use Rattle.std.proofs.Common.{rules}
use Rattle.cid.specs.TestDigests.{size}
use Rattle.cid.proofs.digest.Sha256Digest.digest.Goals as goal

pub returns : goal.returns
unfolding size
returns c = search rules

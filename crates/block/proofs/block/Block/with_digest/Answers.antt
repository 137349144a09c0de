use Rattle.std.proofs.Common.{rules}
use Rattle.spec.specs.Cid.{cid}
use Rattle.block.proofs.block.Block.with_digest.Goals as goal

pub of_known-requires : goal.of_known-requires
unfolding cid
of_known-requires g c = search rules

use Rattle.std.proofs.Common.{rules}
use Rattle.spec.specs.Cid.{cid}
use Rattle.block.proofs.block.Block.of.Goals as goal

pub invariant_of-result : goal.invariant_of-result
unfolding cid
invariant_of-result g c = search rules

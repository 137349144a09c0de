use Rattle.std.proofs.Common.{arith}
use Rattle.repository_check.proofs.Trees.{own-each}
use Rattle.repository_check.proofs.tree.have_own_cids.Goals as goal

pub returns-clause-own : goal.returns-clause-own
returns-clause-own g c = own-each c.args.pairs.now c.loop-cid.cid-index (omega arith) c.loop-cid.invariant

use Rattle.std.proofs.Common.{arith}
use Rattle.difference_commands.proofs.Owning.{own-each}
use Rattle.difference_commands.proofs.trees.have_own_cids.Goals as goal

pub returns-clause-own : goal.returns-clause-own
returns-clause-own c = own-each c.args.entries.now c.loop-cid.cid-index (omega arith) c.loop-cid.invariant

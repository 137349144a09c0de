use Rattle.std.proofs.lemmas.Grind.{common_steps}
use Rattle.std.proofs.Common.{arith}
use Rattle.scratch.specs.Pairs.{pairs_of}
use Rattle.scratch.proofs.Ascending.{ascends-all}
use Rattle.scratch.proofs.keys.is_ascending.Goals as goal

pub loop-key-init : goal.loop-key-init
loop-key-init g c = ascends-all (pairs_of g.K.AsSlice.items c.args.pairs.now)

pub loop-key-preserved : goal.loop-key-preserved
loop-key-preserved g c = grind (arith, common_steps)

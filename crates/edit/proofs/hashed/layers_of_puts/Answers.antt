use Rattle.std.proofs.Common.{rules}
use Rattle.spec.specs.Layer.{layer}
use Rattle.edit.proofs.OnTree.{layers-step}
use Rattle.edit.proofs.hashed.layers_of_puts.Goals as goal

pub loop-change-preserved : goal.loop-change-preserved
loop-change-preserved g c =
    layers-step (layer g.D.Digest.digest_of g.row.B) c.args.changes.now c.loop-change.change-index c.change-item.result
    c.loop-change.most c.layers.result c.max-most.result c.loop-change-test.true c.change-item.is c.loop-change.invariant
    c.layers.ensures (search rules)

use Rattle.std.proofs.Common.{arith}
use Rattle.edit.proofs.Bounds.{most-fits}
use Rattle.edit.proofs.changes.most_reads_below.Goals as goal

pub overflow_add-most : goal.overflow_add-most
overflow_add-most g c =
    let fits = most-fits c.args.layer c.args.changes.now c.loop-left.left c.loop-left.most c.reads_below-most.result
    c.index-changes-left.result.1 c.ranges.layer.fits c.loop-left.invariant.short c.loop-left.invariant.most
    c.reads_below-most.ensures in
    omega (arith, fits)

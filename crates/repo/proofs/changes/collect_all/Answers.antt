use Rattle.std.proofs.Common.{arith}
use Rattle.std.specs.Arc.{arc_value}
use Rattle.batches.specs.Values.{write_of}
use Rattle.repo.specs.Tested.{changes_in}
use Rattle.repo.proofs.TestedWrites.{one-more-change}
use Rattle.repo.proofs.changes.collect_all.Goals as goal

pub loop-write-preserved : goal.loop-write-preserved
loop-write-preserved g c =
    let at = c.loop-write in
    one-more-change (λ w. write_of (arc_value w)) c.args.writes.now at.write-index c.write-item.result (changes_in at.changes) _
    (omega arith) c.write-item.is at.invariant c.in_ok-collect.ensures

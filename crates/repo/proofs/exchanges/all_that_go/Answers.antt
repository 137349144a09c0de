use Rattle.std.proofs.Common.{arith}
use Rattle.repo.proofs.Values.{one-more-given}
use Rattle.repo.proofs.exchanges.all_that_go.Goals as goal

pub loop-record-preserved : goal.loop-record-preserved
loop-record-preserved g c =
    one-more-given c.args.nodes.items c.loop-record.all.items _ c.args.records.now c.loop-record.record-index c.record-item.result
    (omega arith) c.record-item.is c.loop-record.invariant c.in_ok-push_some.ensures

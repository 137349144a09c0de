use Rattle.std.proofs.Common.{◌<◌, length, arith}
use Rattle.commit_events.proofs.Seen.{seen-here, seen-next}
use Rattle.commit_events.proofs.single.has_key.Goals as goal

pub returns-then-is_of : goal.returns-then-is_of
returns-then-is_of c =
    let cs = c.args.ops.now in
    let i = c.loop-op.op-index in
    let lt : i < length cs = omega arith in
    seen-here cs c.args.key.now i c.op-item.result c.is_of.result lt c.op-item.is c.is_of.ensures
    c.if-is_of.true c.loop-op.invariant

pub loop-op-preserved : goal.loop-op-preserved
loop-op-preserved c =
    let cs = c.args.ops.now in
    let i = c.loop-op.op-index in
    let lt : i < length cs = omega arith in
    seen-next cs c.args.key.now i c.op-item.result c.is_of.result lt c.op-item.is c.is_of.ensures
    c.if-is_of.false c.loop-op.invariant

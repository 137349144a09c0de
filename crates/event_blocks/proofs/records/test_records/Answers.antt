use Rattle.std.proofs.Common.{◌<◌, length, arith}
use Rattle.event_blocks.proofs.EachRecord.{tests-next}
use Rattle.event_blocks.proofs.records.test_records.Goals as goal

pub loop-place-preserved : goal.loop-place-preserved
loop-place-preserved g c =
    let cs = c.args.ops.now in
    let i = c.loop-place.place in
    let op = c.index-ops-place.result in
    let lt : i < length cs = omega arith in
    tests-next c.args.places.now cs i op c.after_of.result.now c.in_ok-test_after.field-0 lt c.index-ops-place.is c.after_of.ensures
    c.in_ok-test_after.ensures c.loop-place.invariant

use Rattle.std.proofs.Common.{◌<◌, length, arith}
use Rattle.event_writing_laws.specs.Telling.{path_test}
use Rattle.event_writing.proofs.EachOp.{tests-next}
use Rattle.event_writing.proofs.ops.test_paths.Goals as goal

pub loop-place-preserved : goal.loop-place-preserved
loop-place-preserved c =
    let cs = c.args.ops.now in
    let i = c.loop-place.place in
    let lt : i < length cs = omega arith in
    tests-next path_test cs i c.index-ops-place.result c.in_ok-test_path.field-0 lt c.index-ops-place.is c.in_ok-test_path.ensures
    c.loop-place.invariant

use Rattle.std.proofs.Common.{◌<◌, length, map, arith}
use Rattle.difference_taking.proofs.Batches.{made-more}
use Rattle.difference_taking.proofs.writes.batch_of.Goals as goal

pub loop-place-preserved : goal.loop-place-preserved
loop-place-preserved g c =
    let digest = g.D.Digest.digest_of in
    let given = map g.K.AsSlice.items c.args.records.now in
    let cs = c.args.changes.now in
    let place = c.loop-place.place in
    let lt : place < length cs = omega arith in
    made-more digest given cs place c.index-changes-place.result c.loop-place.batch.items c.push.new.self.items c.in-Some.write
    c.in_ok-write.field-0 lt c.index-changes-place.is c.in_ok-write.ensures c.in-Some.is c.in_ok-push-in-Some.ensures.items
    c.loop-place.invariant

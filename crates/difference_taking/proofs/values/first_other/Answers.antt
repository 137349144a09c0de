use Rattle.std.proofs.Common.{◌<◌, length, arith}
use Rattle.spec.specs.Blocks.{pairs}
use Rattle.spec.specs.States.{records}
use Rattle.change_laws.specs.Told.{KeyChange}
use Rattle.difference_taking.proofs.Having.{had-next_of}
use Rattle.difference_taking.proofs.values.first_other.Goals as goal

pub loop-place-preserved : goal.loop-place-preserved
loop-place-preserved g c =
    let es = pairs g.D.Digest.digest_of (records c.args.core.now) in
    let cs = c.args.changes.now in
    let place = c.loop-place.place in
    let lt : place < length cs = omega arith in
    let inside = c.change.inside in
    let seen : KeyChange = record { key = inside.key.now; before = inside.before; after = inside.after } in
    had-next_of es cs place c.index-changes-place.result seen c.value_of.result c.is_same.result lt c.index-changes-place.is
    c.change.view_is c.value_of.ensures c.is_same.ensures c.if-not-is_same.false c.loop-place.invariant

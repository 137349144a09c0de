use Rattle.std.proofs.Common.{◌<◌, List, length, ap, ◌∙◌, arith}
use Rattle.change_laws.specs.Told.{KeyChange}
use Rattle.event_laws.specs.Verdict.{Placed}
use Rattle.commit_events.specs.Order.{place_among}
use Rattle.commit_events.proofs.Inserting.{orders-next}
use Rattle.commit_events.proofs.order.in_order.Goals as goal

pub loop-place-preserved : goal.loop-place-preserved
loop-place-preserved g c =
    let cs = c.args.ops.now in
    let ds = c.loop-place.sorted.items in
    let i = c.loop-place.place in
    let lt : i < length cs = omega arith in
    orders-next ds c.insert.new.self.items cs i c.place_among-at.result c.index-ops-place.result c.copy_of.result lt
    c.index-ops-place.is c.copy_of.ensures
    (c.place_among-at.ensures.place
    ∙ ap (λ (xs : List Placed). place_among xs c.op.inside.key.now) c.deref.ensures.value
    ∙ ap (λ (x : KeyChange). place_among ds x.key) c.op.view_is)
    c.in_ok-insert.ensures.items c.loop-place.invariant

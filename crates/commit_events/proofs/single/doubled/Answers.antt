use Rattle.std.proofs.Common.{◌<◌, length, take, ap, ◌∙◌, arith}
use Rattle.change_laws.specs.Told.{KeyChange}
use Rattle.event_laws.specs.Verdict.{is_seen}
use Rattle.commit_events.specs.Order.{keys_of}
use Rattle.commit_events.proofs.Seen.{singles-next}
use Rattle.commit_events.proofs.single.doubled.Goals as goal

pub loop-place-preserved : goal.loop-place-preserved
loop-place-preserved c =
    let cs = c.args.ops.now in
    let i = c.loop-place.place in
    let lt : i < length cs = omega arith in
    singles-next cs i c.index-ops-place.result c.has_key.result lt c.index-ops-place.is
    (c.has_key.ensures ∙ ap (λ (x : KeyChange). is_seen (keys_of (take i cs)) x.key) c.op.view_is)
    c.if-has_key.false c.loop-place.invariant

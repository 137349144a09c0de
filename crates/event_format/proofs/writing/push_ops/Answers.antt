use Rattle.std.proofs.Common.{◌≡◌, ◌<◌, length, get_or, ap, subst, ◌∙◌, arith}
use Rattle.event_format.proofs.Spelling.{left-next}
use Rattle.event_format.proofs.writing.push_ops.Goals as goal

pub loop-op-preserved : goal.loop-op-preserved
loop-op-preserved g c =
    let cs = c.args.ops.now.items in
    let i = c.loop-op.op-index in
    let x = c.op-item.result in
    let is : x ≡ get_or cs i x = c.op-item.is ∙ ap (λ ys. get_or ys i x) c.deref-op-items.ensures.value in
    let lt : i < length cs = subst (λ ys. i < length ys) c.deref-op-items.ensures.value (omega arith) in
    left-next cs _ c.loop-op.out.items _ i x lt is c.in_ok-push_op.ensures c.loop-op.invariant

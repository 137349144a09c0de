use Rattle.std.proofs.Common.{◌≡◌, ◌+◌, ◌<◌, [], ◌∷◌, ◌++◌, length, get_or, ap, sym, subst, ◌∙◌, length-append, arith}
use Rattle.event_format.proofs.OpsRead.{reads-next}
use Rattle.event_format.proofs.ops_reading.ops_of.Goals as goal

pub loop-item-preserved : goal.loop-item-preserved
loop-item-preserved g c =
    let vs = c.args.items.now.items in
    let l = c.loop-item in
    let i = l.item-index in
    let v = c.item-item.result in
    let op = c.in-Some.op in
    let is : v ≡ get_or vs i v = c.item-item.is ∙ ap (λ ys. get_or ys i v) c.deref-item-items.ensures.value in
    let lt : i < length vs = subst (λ ys. i < length ys) c.deref-item-items.ensures.value (omega arith) in
    let more : c.push.new.self.items ≡ l.ops.items ++ op ∷ [] = c.in_ok-push.ensures.items in
    record {
      count = ap length more ∙ length-append l.ops.items (op ∷ []) ∙ ap (λ n. n + 1) l.invariant.count;
      reads = reads-next vs i v l.ops.items c.push.new.self.items op lt is (sym c.in-Some.ensures) more l.invariant.reads;
    }

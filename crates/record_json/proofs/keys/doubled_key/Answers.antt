use Rattle.std.proofs.Common.{sym, ◌∙◌, arith}
use Rattle.record_json.proofs.KeyOrders.{doubled_key-found, doubled_key-later, doubled_key-none}
use Rattle.record_json.proofs.keys.doubled_key.Goals as goal

pub returns-then-eq : goal.returns-then-eq
returns-then-eq g c =
    let few = c.args.members.now.ok.0 in
    sym
    (c.loop-i.invariant
    ∙ doubled_key-found (λ m. m.now.0.now) c.args.members.now.items c.loop-i.i c.index-before.result.now c.index-member.result.now (omega arith) (omega arith) c.index-before.ensures c.index-member.ensures
    (sym c.eq.ensures ∙ c.if-eq.true))

pub loop-i-preserved : goal.loop-i-preserved
loop-i-preserved g c =
    let few = c.args.members.now.ok.0 in
    c.loop-i.invariant
    ∙ doubled_key-later (λ m. m.now.0.now) c.args.members.now.items c.loop-i.i c.index-before.result.now c.index-member.result.now (omega arith) (omega arith) c.index-before.ensures c.index-member.ensures
    (sym c.eq.ensures ∙ c.if-eq.false)

pub returns : goal.returns
returns g c =
    let few = c.args.members.now.ok.0 in
    sym (c.loop-i.invariant ∙ doubled_key-none (λ m. m.now.0.now) c.args.members.now.items c.loop-i.i (omega arith) (omega arith))

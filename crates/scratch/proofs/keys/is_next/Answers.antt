use Rattle.spec.specs.NodeFormat.{is_key}
use Rattle.scratch.proofs.Ascending.{less-test, next-other}
use Rattle.std.proofs.Common.{◌&&◌, sym, ap, ◌∙◌}
use Rattle.scratch.proofs.keys.is_next.Goals as goal

pub returns-then-lt : goal.returns-then-lt
returns-then-lt c =
    let e = less-test c.args.before.now c.args.key.now c.lt.result c.lt.ensures in
    c.is_key.ensures ∙ sym (ap (λ t. t && is_key c.args.key.now) (sym e ∙ c.if-lt.true))

pub returns-else-lt : goal.returns-else-lt
returns-else-lt c =
    next-other c.args.before.now c.args.key.now c.lt.result (less-test c.args.before.now c.args.key.now c.lt.result c.lt.ensures) c.if-lt.false

use Rattle.std.proofs.Common.{◌∙◌, ◌<◌, length, ap, arith}
use Rattle.std.specs.Cmp.Lexicographic.{slice_cmp}
use Rattle.std.specs.Ordering.{nat_cmp}
use Rattle.edit_laws.proofs.Orders.{order-is}
use Rattle.difference.specs.Keys.{key_in}
use Rattle.difference.proofs.LastKeys.{last-both}
use Rattle.difference.proofs.merging.last_order.Goals as goal

pub returns-clause-last : goal.returns-clause-last
returns-clause-last g c =
    let x = c.x-item.result in
    let y = c.y-item.result in
    let some_old : 0 < length c.args.old.now = omega arith in
    let some_new : 0 < length c.args.new.now = omega arith in
    last-both c.args.old.now c.args.new.now x y c.cmp.result some_old some_new c.x-item.is c.y-item.is
    (c.cmp.ensures ∙ ap (λ k. slice_cmp nat_cmp k c.bytes-2.result.now) c.bytes.ensures
    ∙ ap (slice_cmp nat_cmp (key_in x.key)) c.bytes-2.ensures ∙ order-is (key_in x.key) (key_in y.key))

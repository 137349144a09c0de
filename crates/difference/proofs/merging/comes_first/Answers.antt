use Rattle.std.proofs.Common.{◌≡◌, ◌∙◌, ap}
use Rattle.std.specs.Cmp.Lexicographic.{slice_cmp}
use Rattle.std.specs.Ordering.{nat_cmp, is_gt}
use Rattle.edit_laws.specs.Order.{order}
use Rattle.edit_laws.proofs.Orders.{order-is}
use Rattle.difference.specs.Keys.{key_in}
use Rattle.difference.proofs.LastKeys.{comes-first}
use Rattle.difference.proofs.merging.comes_first.Goals as goal

pub returns : goal.returns
returns g c = λ h.
    let x = c.next-item.result in
    let greater : c.is_gt.result ≡ is_gt (order (key_in x.key) (key_in c.args.row.now.key)) =
    c.is_gt.ensures ∙ ap is_gt (c.cmp.ensures
    ∙ ap (λ k. slice_cmp nat_cmp k c.bytes-2.result.now) c.bytes.ensures
    ∙ ap (slice_cmp nat_cmp (key_in x.key)) c.bytes-2.ensures
    ∙ order-is (key_in x.key) (key_in c.args.row.now.key)) in
    comes-first c.args.row.now c.args.others.now x c.is_gt.result c.in-len1-up.len_at_least c.next-item.is greater h

use Rattle.std.proofs.Common.{◌≡◌, ◌-◌, true, ◌∷◌, length, map, take, drop, sym, ap, subst, ◌∙◌, rules}
use Rattle.std.specs.Cmp.Lexicographic.{slice_cmp}
use Rattle.std.specs.Ordering.{nat_cmp, is_gt}
use Rattle.spec.specs.NodeFormat.{is_key}
use Rattle.edit_laws.specs.Order.{order}
use Rattle.edit_laws.proofs.Orders.{order-is}
use Rattle.key_changes.proofs.Lists.{head-tail}
use Rattle.key_changes.specs.Keyed.{are_changes, is_greater}
use Rattle.key_changes.proofs.Testing.{gt-is, next-one}
use Rattle.key_changes.proofs.keyed.comes_first.Goals as goal

pub returns : goal.returns
returns g c = λ h.
    let seen = g.C.Keyed.change in
    let x = c.next-item.result in
    let others = c.args.others.now in
    let change = seen c.args.change.now in
    let whole = head-tail others x c.in-len1-up.len_at_least c.next-item.is in
    let key : is_key change.0 ≡ true = search rules in
    let greater : c.is_gt.result ≡ is_greater (order (seen x).0 change.0) =
    c.is_gt.ensures
    ∙ ap is_gt (c.cmp.ensures ∙ ap (λ k. slice_cmp nat_cmp k c.key-3.result.now) c.key-2.ensures
    ∙ ap (slice_cmp nat_cmp (seen x).0) c.key-3.ensures ∙ order-is (seen x).0 change.0)
    ∙ gt-is (order (seen x).0 change.0) in
    subst (λ t. c.is_gt.result ≡ are_changes (change ∷ map seen t)) (sym whole)
    (next-one change (seen x) (map seen (take (length others - 1) (drop 1 others))) c.is_gt.result
    (subst (λ t. are_changes (map seen t) ≡ true) whole h) key greater)

use Rattle.std.proofs.Common.{◌≡◌, ◌-◌, List, ℕ, sym, ap, ◌∙◌, take, drop, length, arith}
use Rattle.std.specs.Cmp.Lexicographic.{slice_cmp}
use Rattle.std.specs.Ordering.{nat_cmp, is_gt}
use Rattle.edit_laws.specs.Order.{order}
use Rattle.key_changes.proofs.Lists.{head-tail}
use Rattle.edit.proofs.Placing.{compared}
use Rattle.edit.proofs.Untouched.{none-touch, first-later, is-later, low-none, not-low}
use Rattle.edit.proofs.passing.is_untouched.Goals as goal
use Rattle.edit.proofs.passing.is_untouched.Goals.{else-layer-eq0-via-then-layer-eq0+else-has_link, else-layer-eq0-via-else-layer-eq0}

pub returns : goal.returns
returns g c link l h =
    let key = c.args.key.now in
    let cs = c.args.changes.now in
    let x = c.first-item.result in
    let e = head-tail cs x c.in-len1-up.len_at_least c.first-item.is in
    let q : c.is_gt.result ≡ is_gt (order x.0 key) = compared c.is_gt.result is_gt x.0 key
    (c.is_gt.ensures ∙ ap is_gt c.cmp.ensures ∙ ap (λ (k : List ℕ). is_gt (slice_cmp nat_cmp k key)) c.key.ensures) in
    none-touch c.args.layer cs link key
    (first-later key cs (take (length cs - 1) (drop 1 cs)) x c.requires e (is-later (order x.0 key) (sym q ∙ h)))
    (elim c.else-layer-eq0.branch [
      | else-layer-eq0-via-then-layer-eq0+else-has_link w ↦ low-none c.args.layer link (sym l ∙ w.if-has_link.false)
      | else-layer-eq0-via-else-layer-eq0 w ↦ not-low c.args.layer link (omega (arith, w.if-layer-eq0.false))
    ])

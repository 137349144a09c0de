use Rattle.std.proofs.Common.{◌≡◌, ◌-◌, ℕ, List, Some, sym, ap, subst, ◌∙◌, length, take, drop}
use Rattle.std.specs.Cmp.Lexicographic.{slice_cmp}
use Rattle.std.specs.Ordering.{nat_cmp, is_eq}
use Rattle.edit_laws.specs.Order.{order}
use Rattle.key_changes.proofs.Lists.{head-tail}
use Rattle.edit.specs.Places.{IsAround}
use Rattle.edit.proofs.Placing.{compared, around-at, around-gap}
use Rattle.edit.proofs.changes.changes_around.Goals as goal

pub returns-then-is_eq : goal.returns-then-is_eq
returns-then-is_eq g c =
    let key = c.args.key.now in
    let cs = c.args.changes.now in
    let rest = c.split_at.result.1.now in
    let back = take (length rest - 1) (drop 1 rest) in
    let x = c.first-item.result in
    let e = head-tail rest x c.in-len1-up.len_at_least c.first-item.is in
    let q : c.is_eq.result ≡ is_eq (order x.0 key) = compared c.is_eq.result is_eq x.0 key
    (c.is_eq.ensures ∙ ap is_eq c.cmp.ensures ∙ ap (λ (k : List ℕ). is_eq (slice_cmp nat_cmp k key)) c.key.ensures) in
    subst (λ v. IsAround key cs c.split_at.result.0.now (Some v) back) (sym c.value.ensures)
    (around-at key cs c.split_at.result.0.now rest back x c.count_before-place.result c.requires
    c.count_before-place.ensures.place c.split_at.ensures.front c.split_at.ensures.back e (sym q ∙ c.if-is_eq.true))

pub returns : goal.returns
returns g c =
    let key = c.args.key.now in
    let cs = c.args.changes.now in
    let rest = c.split_at.result.1.now in
    let x = c.first-item.result in
    let e = head-tail rest x c.in-len1-up.len_at_least c.first-item.is in
    let q : c.is_eq.result ≡ is_eq (order x.0 key) = compared c.is_eq.result is_eq x.0 key
    (c.is_eq.ensures ∙ ap is_eq c.cmp.ensures ∙ ap (λ (k : List ℕ). is_eq (slice_cmp nat_cmp k key)) c.key.ensures) in
    around-gap key cs c.split_at.result.0.now rest (take (length rest - 1) (drop 1 rest)) x c.count_before-place.result c.requires
    c.count_before-place.ensures.place c.count_before-place.ensures.first c.split_at.ensures.front c.split_at.ensures.back e
    (sym q ∙ c.if-is_eq.false)

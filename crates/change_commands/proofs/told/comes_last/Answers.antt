use Rattle.std.proofs.Common.{◌≡◌, ℕ, List, Bool, true, false, ap, ap₂, subst, ◌∙◌, sym}
use Rattle.std.specs.Cmp.Lexicographic.{slice_cmp}
use Rattle.std.specs.Ordering.{is_gt, nat_cmp}
use Rattle.spec.specs.NodeFormat.{is_key}
use Rattle.edit_laws.specs.Order.{order}
use Rattle.edit_laws.proofs.Orders.{order-is}
use Rattle.change_laws.specs.Told.{KeyChange}
use Rattle.key_changes.proofs.Testing.{gt-is}
use Rattle.change_commands.proofs.Following.{behind-last, behind-keyless}
use Rattle.change_commands.proofs.told.comes_last.Goals as goal

-- the key that is read is the change's
key-of : (k l : List ℕ) → k ≡ l → (b : Bool) → is_key k ≡ b → is_key l ≡ b
key-of k l e b h = subst (λ x. is_key x ≡ b) e h

pub returns-then-not-is_key : goal.returns-then-not-is_key
returns-then-not-is_key c =
    let view = ap (λ (v : KeyChange). v.key) c.change.view_is in
    behind-keyless c.args.changes.now c.args.change.now
    (key-of c.change.inside.key.now c.args.change.now.key view false (sym c.is_key.ensures ∙ c.if-not-is_key.true))

pub returns : goal.returns
returns c =
    let change = c.args.change.now in
    let last = c.last-item.result in
    let view = ap (λ (v : KeyChange). v.key) c.change.view_is in
    let of_last = ap (λ (v : KeyChange). v.key) c.last.view_is in
    let key = key-of c.change.inside.key.now change.key view true (sym c.is_key.ensures ∙ c.if-not-is_key.false) in
    c.is_gt.ensures ∙ ap is_gt (c.cmp.ensures ∙ ap₂ (slice_cmp nat_cmp) view of_last ∙ order-is change.key last.key) ∙ gt-is (order change.key last.key)
    ∙ behind-last c.args.changes.now last change c.in-len1-up.len_at_least c.last-item.is c.requires.keyed key

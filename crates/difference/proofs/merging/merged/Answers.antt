use Rattle.std.proofs.Common.{◌≡◌, ◌∙◌, ◌∷◌, List, ap, refl, subst, sym}
use Rattle.std.specs.Prelude.{reverse}
use Rattle.edit_laws.specs.Pairs.{Ascending}
use Rattle.change_laws.specs.Told.{KeyChange}
use Rattle.difference.specs.Keys.{key_in}
use Rattle.difference.specs.declared.outcome.KeyDifference.{KeyDifference}
use Rattle.difference.specs.Merged.{greatest_of, pairs_in, changes_told}
use Rattle.difference.proofs.LastKeys.{IsMerging, is-changed, merging-begins, same-change, told-next, with-change, without-change}
use Rattle.difference.proofs.merging.merged.Goals as goal

pub rows-init : goal.rows-init
rows-init g c =
    let old = pairs_in c.args.old.items in
    let new = pairs_in c.args.new.items in
    subst (λ (z : List _). IsMerging old new old new (changes_told (reverse z))) (sym c.new-changes.ensures.items) (merging-begins old new)

pub rows-preserved : goal.rows-preserved
rows-preserved g c =
    let at = c.rows in
    let change = c.in-Some.last in
    let old = pairs_in c.args.old.items in
    let new = pairs_in c.args.new.items in
    let xs = pairs_in c.take_last.new.old.items in
    let ys = pairs_in c.take_last.new.new.items in
    let asc_old = subst (λ (z : List _). Ascending (pairs_in z)) c.deref.ensures.value
    (c.is_ascending.ensures.0 c.if-not-is_ascending.false) in
    let asc_new = subst (λ (z : List _). Ascending (pairs_in z)) c.deref-else-not-is_ascending.ensures.value
    (c.is_ascending-else-not-is_ascending.ensures.0 c.if-not-is_ascending-2.false) in
    let real = is-changed change.before change.after c.is_kept.result c.is_kept.ensures c.if-is_kept.false in
    let told_now : KeyDifference _ = record { key = c.in_ok-key.key; before = change.before; after = change.after } in
    let more : changes_told (reverse c.push.new.self.items) ≡ greatest_of change ∷ changes_told (reverse at.changes.items) =
    ap (λ (z : List _). changes_told (reverse z)) c.in_ok-push.ensures.items ∙ told-next at.changes.items change told_now (same-change change told_now c.in_ok-key.ensures refl refl) in
    subst (λ (z : List KeyChange). IsMerging old new xs ys z) (sym more)
    (with-change old new (pairs_in at.old.items) (pairs_in at.new.items) xs ys (changes_told (reverse at.changes.items))
    (key_in change.key) asc_old asc_new at.invariant change.before change.after real c.in-Some.ensures.last)

pub rows-preserved-then-is_kept : goal.rows-preserved-then-is_kept
rows-preserved-then-is_kept g c =
    let at = c.rows in
    let change = c.in-Some.last in
    let old = pairs_in c.args.old.items in
    let new = pairs_in c.args.new.items in
    let xs = pairs_in c.take_last.new.old.items in
    let ys = pairs_in c.take_last.new.new.items in
    let asc_old = subst (λ (z : List _). Ascending (pairs_in z)) c.deref.ensures.value
    (c.is_ascending.ensures.0 c.if-not-is_ascending.false) in
    let asc_new = subst (λ (z : List _). Ascending (pairs_in z)) c.deref-else-not-is_ascending.ensures.value
    (c.is_ascending-else-not-is_ascending.ensures.0 c.if-not-is_ascending-2.false) in
    let same = c.is_kept.ensures.0 c.if-is_kept.true in
    without-change old new (pairs_in at.old.items) (pairs_in at.new.items) xs ys (changes_told (reverse at.changes.items))
    (key_in change.key) asc_old asc_new at.invariant change.before change.after same c.in-Some.ensures.last

use Rattle.std.proofs.Common.{◌≤◌, length, sym, subst, arith, rules}
use Rattle.spec.specs.DagCbor.{spelling, spelling_of_values, spelling_of_entries}
use Rattle.dagcbor.specs.View.{view, view_items, view_fields}
use Rattle.dagcbor.proofs.ItemByItem.{item-within, field-within}
use Rattle.record_json.proofs.form.+form.Goals as goal

pub have_form-has_form-requires : goal.have_form-has_form-requires
have_form-has_form-requires g t c κs within =
    let xs = c.deref-item-items.result.now in
    let i = c.loop-item.item-index in
    let x = c.item-item.result in
    let here : length (spelling (view x)) ≤ length (spelling_of_values (view_items xs)) =
    subst (λ y. length (spelling (view y)) ≤ length (spelling_of_values (view_items xs))) (sym c.item-item.is) (item-within xs i x (omega arith)) in
    let no_longer : length (spelling (view x)) ≤ length (spelling_of_values (view_items c.args.items.now.items)) =
    subst (λ ys. length (spelling (view x)) ≤ length (spelling_of_values (view_items ys))) c.deref-item-items.ensures.value here in
    search rules

pub fields_have_form-has_form-requires : goal.fields_have_form-has_form-requires
fields_have_form-has_form-requires g t c κs within =
    let xs = c.deref-field-items.result.now in
    let i = c.loop-field.field-index in
    let x = c.field-item.result in
    let here : length (spelling (view x.1)) ≤ length (spelling_of_entries (view_fields xs)) =
    subst (λ y. length (spelling (view y.1)) ≤ length (spelling_of_entries (view_fields xs))) (sym c.field-item.is) (field-within xs i x (omega arith)) in
    let no_longer : length (spelling (view x.1)) ≤ length (spelling_of_entries (view_fields c.args.fields.now.items)) =
    subst (λ ys. length (spelling (view x.1)) ≤ length (spelling_of_entries (view_fields ys))) c.deref-field-items.ensures.value here in
    search rules

use Rattle.std.proofs.Common.{◌≡◌, ◌+◌, ◌*◌, drop, length}
use Rattle.spec.specs.DagCbor.{spelling, spelling_of_values, spelling_of_entries}
use Rattle.dagcbor.specs.View.{view, view_items, view_fields}
use Rattle.record_json.specs.Form.{have_form, fields_have_form}
use Rattle.record_json.proofs.form.+form.Given as goal

abbrev pub invariant-have_form-loop-item : goal.invariant-have_form-loop-item
invariant-have_form-loop-item g l = have_form (view_items l.items.items) ≡ have_form (view_items (drop l.item-index l.items.items))

abbrev pub invariant-fields_have_form-loop-field : goal.invariant-fields_have_form-loop-field
invariant-fields_have_form-loop-field g l = fields_have_form (view_fields l.fields.items) ≡ fields_have_form (view_fields (drop l.field-index l.fields.items))

abbrev pub decreases-has_form : goal.decreases-has_form
decreases-has_form g l = 2 * length (spelling (view l.value.now))

abbrev pub decreases-have_form : goal.decreases-have_form
decreases-have_form g l = 2 * length (spelling_of_values (view_items l.items.now.items)) + 1

abbrev pub decreases-fields_have_form : goal.decreases-fields_have_form
decreases-fields_have_form g l = 2 * length (spelling_of_entries (view_fields l.fields.now.items)) + 1

use Rattle.std.proofs.Common.{◌≡◌, ◌+◌, ◌*◌, ◌++◌, drop, length}
use Rattle.spec.specs.DagCbor.{spelling, spelling_of_values, spelling_of_entries}
use Rattle.dagcbor.specs.View.{view, view_items, view_fields}
use Rattle.dagcbor.proofs.writing.+push.Given as goal

abbrev pub invariant-push_items-loop-item : goal.invariant-push_items-loop-item
invariant-push_items-loop-item g l =
    l.initial.out.items ++ spelling_of_values (view_items l.items.items) ≡ l.out.items ++ spelling_of_values (view_items (drop l.item-index l.items.items))

abbrev pub invariant-push_fields-loop-field : goal.invariant-push_fields-loop-field
invariant-push_fields-loop-field g l =
    l.initial.out.items ++ spelling_of_entries (view_fields l.fields.items) ≡ l.out.items ++ spelling_of_entries (view_fields (drop l.field-index l.fields.items))

abbrev pub decreases-push_value : goal.decreases-push_value
decreases-push_value g l = 2 * length (spelling (view l.value.now))

abbrev pub decreases-push_items : goal.decreases-push_items
decreases-push_items g l = 2 * length (spelling_of_values (view_items l.items.now.items)) + 1

abbrev pub decreases-push_fields : goal.decreases-push_fields
decreases-push_fields g l = 2 * length (spelling_of_entries (view_fields l.fields.now.items)) + 1

use Rattle.std.proofs.Common.{◌≡◌, ◌+◌, ◌*◌, drop, map}
use Rattle.std.specs.Prelude.{string_bytes}
use Rattle.spec.specs.DagCbor.{spelling_of_values, spelling_of_entries}
use Rattle.json.specs.Value.{value_view, items_view}
use Rattle.record_json.specs.Reading.{value_at, values_from, entries_of}
use Rattle.record_json.proofs.Pushes.{Leads}
use Rattle.record_json.proofs.reading.+push.Given as goal

abbrev pub invariant-push_items-loop-i : goal.invariant-push_items-loop-i
invariant-push_items-loop-i g l =
    (string_bytes l.path ≡ string_bytes l.initial.path)
    × Leads spelling_of_values (string_bytes l.initial.path) l.initial.out.items (values_from l.levels 0 (items_view l.items)) l.out.items (values_from l.levels l.i (items_view (drop l.i l.items)))

abbrev pub invariant-push_members-loop-i : goal.invariant-push_members-loop-i
invariant-push_members-loop-i g l =
    (string_bytes l.path ≡ string_bytes l.initial.path)
    × Leads spelling_of_entries (string_bytes l.initial.path) l.initial.out.items (entries_of (map (λ m. (m.now.0.now, value_at l.levels (value_view m.now.1))) l.members.items)) l.out.items
    (entries_of (map (λ m. (m.now.0.now, value_at l.levels (value_view m.now.1))) (drop l.i l.members.items)))

abbrev pub decreases-push_value : goal.decreases-push_value
decreases-push_value g l = 5 * l.levels + 2

abbrev pub decreases-push_list : goal.decreases-push_list
decreases-push_list g l = 5 * l.levels + 1

abbrev pub decreases-push_object : goal.decreases-push_object
decreases-push_object g l = 5 * l.levels + 1

abbrev pub decreases-push_items : goal.decreases-push_items
decreases-push_items g l = 5 * l.levels + 4

abbrev pub decreases-push_members : goal.decreases-push_members
decreases-push_members g l = 5 * l.levels + 4

abbrev pub decreases-push_item : goal.decreases-push_item
decreases-push_item g l = 5 * l.levels + 3

abbrev pub decreases-push_member : goal.decreases-push_member
decreases-push_member g l = 5 * l.levels + 3

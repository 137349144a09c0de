use Rattle.std.proofs.Common.{◌≡◌, ◌+◌, ◌-◌, ◌*◌, None}
use Rattle.std.specs.Prelude.{option_map}
use Rattle.spec.specs.DagCbor.{items_at, fields_at, value_at}
use Rattle.dagcbor.proofs.Readings.{behind_values, behind_fields}
use Rattle.dagcbor.proofs.reading.+value.Given as goal

abbrev pub decreases-value : goal.decreases-value
decreases-value g l = 5 * l.levels + 4

abbrev pub decreases-item : goal.decreases-item
decreases-item g l = 5 * l.levels + 4

abbrev pub decreases-content : goal.decreases-content
decreases-content g l = 5 * l.levels + 3

abbrev pub decreases-list : goal.decreases-list
decreases-list g l = 5 * l.levels + 2

abbrev pub decreases-map : goal.decreases-map
decreases-map g l = 5 * l.levels + 2

abbrev pub decreases-map_of_one : goal.decreases-map_of_one
decreases-map_of_one g l = 5 * l.levels + 2

abbrev pub decreases-items : goal.decreases-items
decreases-items g l = 5 * l.levels + 5

abbrev pub decreases-fields : goal.decreases-fields
decreases-fields g l = 5 * l.levels + 5

abbrev pub decreases-one_field : goal.decreases-one_field
decreases-one_field g l = 5 * l.levels + 5

abbrev pub invariant-items-loop-turn : goal.invariant-items-loop-turn
invariant-items-loop-turn g l = items_at (value_at l.levels) l.n l.bytes ≡ behind_values l.items.items (items_at (value_at l.levels) (l.n - l._turn) l.rest)

abbrev pub invariant-fields-loop-turn : goal.invariant-fields-loop-turn
invariant-fields-loop-turn g l =
    fields_at (value_at l.levels) None l.n l.bytes ≡ behind_fields l.fields.items (fields_at (value_at l.levels) (option_map (λ s. s.now) l.before) (l.n - l._turn) l.rest)

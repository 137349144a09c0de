use Rattle.std.proofs.Common.{◌≡◌, ◌+◌, ◌-◌, ◌*◌, None}
use Rattle.std.specs.Prelude.{option_map}
use Rattle.spec.specs.DagCbor.{items_at, fields_at, value_at}
use Rattle.dagcbor.specs.Passed.{after}
use Rattle.dagcbor.proofs.passing.+passing.Given as goal

abbrev pub decreases-after_value : goal.decreases-after_value
decreases-after_value l = 4 * l.levels + 3

abbrev pub decreases-after_content : goal.decreases-after_content
decreases-after_content l = 4 * l.levels + 2

abbrev pub decreases-after_list : goal.decreases-after_list
decreases-after_list l = 4 * l.levels + 1

abbrev pub decreases-after_map : goal.decreases-after_map
decreases-after_map l = 4 * l.levels + 1

abbrev pub decreases-after_items : goal.decreases-after_items
decreases-after_items l = 4 * l.levels + 4

abbrev pub decreases-after_fields : goal.decreases-after_fields
decreases-after_fields l = 4 * l.levels + 4

abbrev pub invariant-after_items-loop-turn : goal.invariant-after_items-loop-turn
invariant-after_items-loop-turn l = after (items_at (value_at l.levels) l.n l.bytes) ≡ after (items_at (value_at l.levels) (l.n - l._turn) l.rest)

abbrev pub invariant-after_fields-loop-turn : goal.invariant-after_fields-loop-turn
invariant-after_fields-loop-turn l =
    after (fields_at (value_at l.levels) None l.n l.bytes) ≡ after (fields_at (value_at l.levels) (option_map (λ s. s.now) l.before) (l.n - l._turn) l.rest)

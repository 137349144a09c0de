use Rattle.std.proofs.Common.{◌≡◌, ◌+◌, ◌*◌, drop, None}
use Rattle.std.specs.Prelude.{option_map}
use Rattle.spec.specs.DagCbor.{are_lawful_within, are_entries_within}
use Rattle.dagcbor.specs.View.{view_items, view_fields}
use Rattle.dagcbor.proofs.lawful.+lawful.Given as goal

abbrev pub decreases-is_lawful_within : goal.decreases-is_lawful_within
decreases-is_lawful_within g l = 2 * l.levels

abbrev pub decreases-are_lawful_within : goal.decreases-are_lawful_within
decreases-are_lawful_within g l = 2 * l.levels + 1

abbrev pub decreases-are_fields_lawful : goal.decreases-are_fields_lawful
decreases-are_fields_lawful g l = 2 * l.levels + 1

abbrev pub invariant-are_lawful_within-loop-item : goal.invariant-are_lawful_within-loop-item
invariant-are_lawful_within-loop-item g l = are_lawful_within l.levels (view_items l.items.items) ≡ are_lawful_within l.levels (view_items (drop l.item-index l.items.items))

abbrev pub invariant-are_fields_lawful-loop-key : goal.invariant-are_fields_lawful-loop-key
invariant-are_fields_lawful-loop-key g l =
    are_entries_within l.levels None (view_fields l.fields.items) ≡ are_entries_within l.levels (option_map (λ s. s.now) l.before) (view_fields (drop l.key-index l.fields.items))

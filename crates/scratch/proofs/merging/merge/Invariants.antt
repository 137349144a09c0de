use Rattle.std.proofs.Common.{◌≡◌, ◌∷◌, ◌++◌, map, drop}
use Rattle.std.specs.Arc.{arc_value}
use Rattle.scratch.specs.Level.{parts_from}
use Rattle.scratch.proofs.merging.merge.Given as goal

-- the parts so far, and those that are left
abbrev pub invariant-loop-row : goal.invariant-loop-row
invariant-loop-row g l =
    map arc_value l.nodes.items ++ parts_from (map (λ r. r.nodes_after) (drop l.row-index l.rows)) l.tops.rest.items (map arc_value l.under.rest.items)
    ≡ parts_from (l.first ∷ map (λ r. r.nodes_after) l.rows) l.fn.tops.items (map arc_value l.fn.under.items)

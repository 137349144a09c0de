use Rattle.std.proofs.Common.{◌≡◌, ◌-◌, ◌++◌, map, take, drop}
use Rattle.std.specs.Arc.{arc_value}
use Rattle.scratch.proofs.merging.push_under.Given as goal

-- those that are still to be added end the list
abbrev pub invariant-loop : goal.invariant-loop
invariant-loop g l =
    record {
      nodes : map arc_value l.nodes.items ++ take (l.count - l.counter) (map arc_value l.under.rest.items)
          ≡ map arc_value l.fn.nodes.items ++ take l.count (map arc_value l.fn.under.rest.items);
      under : drop (l.count - l.counter) (map arc_value l.under.rest.items) ≡ drop l.count (map arc_value l.fn.under.rest.items);
    }

use Rattle.std.proofs.Common.{◌≡◌, ◌++◌, map}
use Rattle.std.specs.Arc.{arc_value}
use Rattle.tizulgech.specs.Known.{AreTheirs}
use Rattle.tizulgech.proofs.nodes.push_known.Given as goal

-- the blocks so far, and then those that are left, whose CIDs are theirs
abbrev pub invariant-loop-bytes : goal.invariant-loop-bytes
invariant-loop-bytes l = (map arc_value l.blocks.items ++ map (λ pair. pair.0.items) l.bytes-iterator.rest.items
    ≡ map arc_value l.initial.blocks.items ++ map (λ pair. pair.0.items) l.fn.known.items)
    × AreTheirs (map (λ pair. (pair.0.items, pair.1)) l.bytes-iterator.rest.items)

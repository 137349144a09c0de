use Rattle.std.proofs.Common.{◌≡◌, ◌++◌, drop, map}
use Rattle.std.specs.Arc.{arc_value}
use Rattle.std.specs.List.{flat_map}
use Rattle.spec.specs.Car.{section}
use Rattle.difference_commands.proofs.slice.push_nodes.Given as goal

-- what was written, with what is to come
abbrev pub invariant-loop-node : goal.invariant-loop-node
invariant-loop-node g l =
    l.out.items ++ flat_map (section g.D.Digest.digest_of) (map arc_value (drop l.node-index l.nodes))
    ≡ l.initial.out.items ++ flat_map (section g.D.Digest.digest_of) (map arc_value l.nodes)

use Rattle.std.proofs.Common.{◌≡◌, map, take}
use Rattle.std.specs.Arc.{arc_value}
use Rattle.spec.specs.NodeFormat.{shape_bytes}
use Rattle.difference.specs.Sides.{shapes_in}
use Rattle.difference.proofs.comparing.shared.Given as goal

abbrev pub invariant-loop-node : goal.invariant-loop-node
invariant-loop-node g l = map arc_value l.all.items ≡ map shape_bytes (shapes_in (take l.node-index l.blocks))

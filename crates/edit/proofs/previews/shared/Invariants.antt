use Rattle.std.proofs.Common.{◌≡◌, map, take}
use Rattle.std.specs.Arc.{arc_value}
use Rattle.edit_laws.specs.Laws.Edits.{bytes_of}
use Rattle.edit.specs.States.{shapes_in}
use Rattle.edit.proofs.previews.shared.Given as goal

abbrev pub invariant-loop-node : goal.invariant-loop-node
invariant-loop-node g l = map arc_value l.blocks.items ≡ bytes_of (shapes_in (take l.node-index l.read))

use Rattle.std.proofs.Common.{◌≡◌, ◌++◌, map}
use Rattle.std.specs.Arc.{arc_value}
use Rattle.tizulgech.proofs.nodes.push_shared.Given as goal

abbrev pub invariant-loop-block : goal.invariant-loop-block
invariant-loop-block l = map arc_value l.blocks.items ++ l.block-iterator.rest.items ≡ map arc_value l.initial.blocks.items ++ l.fn.more.items

use Rattle.std.proofs.Common.{◌≡◌, ◌++◌, map}
use Rattle.std.specs.Arc.{arc_value}
use Rattle.change_proofs.proofs.given_blocks.blocks_of.Given as goal

abbrev pub invariant-loop-block : goal.invariant-loop-block
invariant-loop-block g l =
    map arc_value l.blocks.items ++ l.block-iterator.rest.items ≡ map g.K.AsSlice.items l.given

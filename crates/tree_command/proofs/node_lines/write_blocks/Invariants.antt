use Rattle.std.proofs.Common.{map, drop}
use Rattle.std.specs.Arc.{arc_value}
use Rattle.std.specs.List.{flat_map}
use Rattle.tree_command.specs.TreeText.{block_line}
use Rattle.console.proofs.Leaving.{Leaves}
use Rattle.tree_command.proofs.node_lines.write_blocks.Given as goal

abbrev pub invariant-loop-block : goal.invariant-loop-block
invariant-loop-block g l =
    Leaves (g.W.Write.contents l.initial.out) (g.W.Write.contents l.out) (flat_map (block_line g.D.Digest.digest_of) (map arc_value l.blocks))
    (flat_map (block_line g.D.Digest.digest_of) (map arc_value (drop l.block-index l.blocks)))

use Rattle.std.proofs.Common.{◌≡◌, ◌++◌, map, drop}
use Rattle.std.specs.Arc.{arc_value}
use Rattle.std.specs.List.{flat_map}
use Rattle.repository_commands.specs.Texts.{hex_line}
use Rattle.repository_commands.proofs.proving.push_lines.Given as goal

abbrev pub invariant-loop-block : goal.invariant-loop-block
invariant-loop-block g l =
    l.text.items ++ flat_map hex_line (map arc_value (drop l.block-index l.blocks))
    ≡ l.initial.text.items ++ flat_map hex_line (map arc_value l.blocks)

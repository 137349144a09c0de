use Rattle.std.proofs.Common.{◌≡◌, ◌++◌, drop, map}
use Rattle.std.specs.Arc.{arc_value}
use Rattle.buffers.specs.Answers.{parts_bytes}
use Rattle.tizulgech.proofs.proving.push_blocks.Given as goal

abbrev pub invariant-loop-block : goal.invariant-loop-block
invariant-loop-block l = l.initial.bytes.items ++ parts_bytes (map arc_value l.blocks) ≡ l.bytes.items ++ parts_bytes (map arc_value (drop l.block-index l.blocks))

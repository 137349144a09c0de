use Rattle.std.proofs.Common.{◌≡◌, ◌++◌, drop, map}
use Rattle.std.specs.Arc.{arc_value}
use Rattle.sha2.specs.Sha256.{sha256}
use Rattle.buffers.specs.Answers.{blocks_bytes}
use Rattle.tizulgech.proofs.edits.push_nodes.Given as goal

abbrev pub invariant-loop-node : goal.invariant-loop-node
invariant-loop-node l = l.initial.bytes.items ++ blocks_bytes sha256 (map arc_value l.nodes) ≡ l.bytes.items ++ blocks_bytes sha256 (map arc_value (drop l.node-index l.nodes))

use Rattle.std.proofs.Common.{◌≤◌, drop, length, map}
use Rattle.std.specs.Arc.{arc_value}
use Rattle.event_times.specs.Limits.{most_blocks_bytes}
use Rattle.event_writing.proofs.Puts.{IsLeft}
use Rattle.event_writing.proofs.file.put_nodes.Given as goal

abbrev pub invariant-loop-node : goal.invariant-loop-node
invariant-loop-node g l =
    record {
      left : IsLeft g.D.Digest.digest_of (map arc_value (drop l.node-index l.nodes)) (map arc_value l.nodes) l.initial.file l.file;
      short : length l.file.bytes ≤ most_blocks_bytes;
    }

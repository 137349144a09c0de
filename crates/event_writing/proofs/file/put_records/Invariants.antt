use Rattle.std.proofs.Common.{◌≡◌, ◌≤◌, drop, length}
use Rattle.event_times.specs.Limits.{most_blocks_bytes}
use Rattle.event_writing.specs.Sources.{records_given}
use Rattle.event_writing.proofs.Puts.{IsLeft}
use Rattle.event_writing.proofs.file.put_records.Given as goal

abbrev pub invariant-loop-op : goal.invariant-loop-op
invariant-loop-op g l =
    record {
      same : g.S.Source.gives l.src ≡ g.S.Source.gives l.initial.src;
      left : IsLeft g.D.Digest.digest_of (records_given (g.S.Source.gives l.initial.src) (drop l.op-index l.ops))
          (records_given (g.S.Source.gives l.initial.src) l.ops) l.initial.file l.file;
      short : length l.file.bytes ≤ most_blocks_bytes;
    }

use Rattle.std.proofs.Common.{◌≡◌, ◌+◌, ◌^◌, ◌<◌, length}
use Rattle.export.specs.Founds.{bytes_in, found_in, may_repeat, AreMarked}
use Rattle.export.specs.Once.{AreRepeats, AreSingle, capped, sections}
use Rattle.export.specs.Outs.{Leaves}
use Rattle.export.specs.Walks.{blocks_behind, blocks_left, steps_behind, IsStepFrom}
use Rattle.export.proofs.blocks.write_blocks.Given as goal

abbrev pub invariant-steps : goal.invariant-steps
invariant-steps g l =
    let all = sections g.D.Digest.digest_of l.initial.seen (blocks_left (bytes_in l.initial.src.blocks.now) l.initial.walk) in
    let left = blocks_behind (bytes_in l.initial.src.blocks.now) l.step l.walk in
    let rest = sections g.D.Digest.digest_of l.seen left in
    record {
      same : found_in l.src.blocks.now ≡ found_in l.initial.src.blocks.now;
      leaves : Leaves (g.W.Out.taken l.initial.out) (g.W.Out.taken l.out) all rest;
      count : capped (l.written + length rest) ≡ capped (length all);
      fits : l.written < 2 ^ 64;
      noted : AreRepeats (may_repeat g.D.Digest.digest_of g.row.B l.initial.core) l.seen;
      single : AreSingle g.D.Digest.digest_of (may_repeat g.D.Digest.digest_of g.row.B l.initial.core) left;
      marked : AreMarked g.D.Digest.digest_of (may_repeat g.D.Digest.digest_of g.row.B l.initial.core) (found_in l.initial.src.blocks.now);
      from : IsStepFrom (found_in l.initial.src.blocks.now) l.step;
      failures : g.W.Out.failures l.out ≡ g.W.Out.failures l.initial.out;
    }

abbrev pub decreases-steps : goal.decreases-steps
decreases-steps g l = steps_behind (bytes_in l.initial.src.blocks.now) l.step l.walk

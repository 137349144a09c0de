use Rattle.std.proofs.Common.{map}
use Rattle.batches.specs.Values.{writes_of}
use Rattle.difference_taking.proofs.Batches.{Made}
use Rattle.difference_taking.proofs.writes.batch_of.Given as goal

abbrev pub invariant-loop-place : goal.invariant-loop-place
invariant-loop-place g l =
    Made g.D.Digest.digest_of (map g.K.AsSlice.items l.records) l.changes (writes_of l.batch.items) l.place

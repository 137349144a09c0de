use Rattle.std.proofs.Common.{◌≡◌, ◌++◌, map, drop, length}
use Rattle.spec.specs.Layer.{layer as layer_of}
use Rattle.scratch.specs.Pairs.{pairs_of}
use Rattle.scratch.specs.Rows.{pair_of, AreLayered, HaveNothingBelow}
use Rattle.scratch.proofs.rows.rows.Given as goal

abbrev pub decreases-fours : goal.decreases-fours
decreases-fours g l = length l.rest

abbrev pub invariant-fours : goal.invariant-fours
invariant-fours g l =
    record {
      same : map pair_of l.rows.items ++ pairs_of g.K.AsSlice.items l.rest ≡ pairs_of g.K.AsSlice.items l.pairs;
      layered : AreLayered (layer_of g.D.Digest.digest_of g.row.B) l.rows.items;
      nothing_below : HaveNothingBelow l.rows.items;
    }

abbrev pub invariant-last : goal.invariant-last
invariant-last g l =
    record {
      same : map pair_of l.rows.items ++ pairs_of g.K.AsSlice.items (drop l.key-index l.key-items) ≡ pairs_of g.K.AsSlice.items l.pairs;
      layered : AreLayered (layer_of g.D.Digest.digest_of g.row.B) l.rows.items;
      nothing_below : HaveNothingBelow l.rows.items;
    }

use Rattle.std.proofs.Common.{arith}
use Rattle.std.specs.BTreeMap.{get}
use Rattle.std.specs.Cmp.Lexicographic.{slice_cmp}
use Rattle.std.specs.Ordering.{nat_cmp}
use Rattle.difference_taking.proofs.Finding.{sees-next}
use Rattle.difference_taking.proofs.records.places_of.Goals as goal

pub loop-remaining-preserved : goal.loop-remaining-preserved
loop-remaining-preserved g c = record {
  within = omega (arith, c.loop-remaining.invariant.within);
  placed = sees-next g.D.Digest.digest_of g.K.AsSlice.items c.args.records.now c.in_ok-digests.digests.items c.loop-remaining.remaining
      c.index.result.now c.of_digest.result (get (slice_cmp nat_cmp) c.loop-remaining.places) (get (slice_cmp nat_cmp) c.insert.new.self)
      c.loop-remaining-test.true c.loop-remaining.invariant.within c.in_ok-digests.ensures c.index.ensures c.of_digest.ensures.value
      c.in_ok-insert.ensures.updates.0 c.loop-remaining.invariant.placed;
}

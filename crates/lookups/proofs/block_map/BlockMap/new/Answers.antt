use Rattle.std.proofs.Common.{◌-◌, ◌<◌, length, arith}
use Rattle.std.specs.BTreeMap.{get}
use Rattle.std.specs.Cmp.Lexicographic.{slice_cmp}
use Rattle.std.specs.Ordering.{nat_cmp}
use Rattle.lookups.proofs.Mapping.{Sees-left}
use Rattle.lookups.proofs.block_map.BlockMap.new.Goals as goal

pub loop-remaining-preserved : goal.loop-remaining-preserved
loop-remaining-preserved g c =
    let below : c.loop-remaining.remaining - 1 < length c.args.blocks.now = omega (arith, c.loop-remaining.invariant.within, c.loop-remaining-test.true) in
    record {
      within = omega (arith, below);
      placed = Sees-left g.D.Digest.digest_of c.args.blocks.now c.loop-remaining.remaining c.index-blocks-remaining.result c.cid.result
          (get (slice_cmp nat_cmp) c.loop-remaining.places) (get (slice_cmp nat_cmp) c.insert.new.self) c.loop-remaining-test.true below
          c.index-blocks-remaining.is (cc) c.in_ok-insert.ensures.updates.0 c.loop-remaining.invariant.placed;
    }

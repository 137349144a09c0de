use Rattle.std.proofs.Common.{◌≡◌, ◌≤◌, ◌-◌, length, drop, map}
use Rattle.export.specs.GivenBlocks.{first_with}
use Rattle.export.proofs.verifying_among.find_among.Given as goal

abbrev pub invariant-loop-place : goal.invariant-loop-place
invariant-loop-place g l = record {
  within : l.place ≤ length l.blocks;
  found : first_with g.D.Digest.digest_of l.cid (drop l.place (map g.K.AsSlice.items l.blocks))
      ≡ first_with g.D.Digest.digest_of l.cid (map g.K.AsSlice.items l.blocks);
}

abbrev pub decreases-loop-place : goal.decreases-loop-place
decreases-loop-place g l = length l.blocks - l.place

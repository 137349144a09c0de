use Rattle.std.proofs.Common.{◌≤◌, length}
use Rattle.std.specs.BTreeMap.{get}
use Rattle.std.specs.Cmp.Lexicographic.{slice_cmp}
use Rattle.std.specs.Ordering.{nat_cmp}
use Rattle.lookups.proofs.Mapping.{Sees}
use Rattle.lookups.proofs.block_map.BlockMap.new.Given as goal

-- each CID has its first place from here on
abbrev pub invariant-loop-remaining : goal.invariant-loop-remaining
invariant-loop-remaining g l = record {
  within : l.remaining ≤ length l.blocks;
  placed : Sees g.D.Digest.digest_of l.blocks l.remaining (get (slice_cmp nat_cmp) l.places);
}

abbrev pub decreases-loop-remaining : goal.decreases-loop-remaining
decreases-loop-remaining g l = l.remaining

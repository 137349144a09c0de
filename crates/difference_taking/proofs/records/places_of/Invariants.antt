use Rattle.std.proofs.Common.{◌≤◌, length, map}
use Rattle.std.specs.BTreeMap.{get}
use Rattle.std.specs.Cmp.Lexicographic.{slice_cmp}
use Rattle.std.specs.Ordering.{nat_cmp}
use Rattle.difference_taking.proofs.Finding.{Sees}
use Rattle.difference_taking.proofs.records.places_of.Given as goal

-- each CID has its first place from here on
abbrev pub invariant-loop-remaining : goal.invariant-loop-remaining
invariant-loop-remaining g l = record {
  within : l.remaining ≤ length l.records;
  placed : Sees g.D.Digest.digest_of (map g.K.AsSlice.items l.records) l.remaining (get (slice_cmp nat_cmp) l.places);
}

abbrev pub decreases-loop-remaining : goal.decreases-loop-remaining
decreases-loop-remaining g l = l.remaining

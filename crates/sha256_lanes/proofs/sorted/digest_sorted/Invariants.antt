use Rattle.std.proofs.Common.{◌≡◌, ◌++◌, length}
use Rattle.sha256_lanes.specs.Digests.{digests_of}
use Rattle.sha256_lanes.proofs.sorted.digest_sorted.Given as goal

abbrev pub decreases-parts : goal.decreases-parts
decreases-parts g l = length l.rest

abbrev pub invariant-parts : goal.invariant-parts
invariant-parts g l = l.digests.items ++ digests_of g.T.AsSlice.items l.rest ≡ digests_of g.T.AsSlice.items l.messages

use Rattle.std.proofs.Common.{◌≡◌, ◌++◌, drop, length}
use Rattle.sha256_lanes.specs.Digests.{digests_of}
use Rattle.sha256_lanes.proofs.each.digest_each.Given as goal

abbrev pub decreases-fours : goal.decreases-fours
decreases-fours g l = length l.rest

abbrev pub invariant-fours : goal.invariant-fours
invariant-fours g l = l.digests.items ++ digests_of g.T.AsSlice.items l.rest ≡ digests_of g.T.AsSlice.items l.messages

abbrev pub invariant-last : goal.invariant-last
invariant-last g l = l.digests.items ++ digests_of g.T.AsSlice.items (drop l.message-index l.message-items)
    ≡ digests_of g.T.AsSlice.items l.messages

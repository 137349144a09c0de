use Rattle.std.proofs.Common.{◌≡◌, ◌<◌, drop, length, map}
use Rattle.std.specs.List.{All}
use Rattle.sha256_lanes.specs.Digests.{digests_of, written}
use Rattle.sha256_lanes.proofs.sorted.place_all.Given as goal

abbrev pub decreases-fours : goal.decreases-fours
decreases-fours g l = length l.rest

abbrev pub invariant-fours : goal.invariant-fours
invariant-fours g l = All (λ p. p.1 < length l.messages) l.rest
    × (written (digests_of g.T.AsSlice.items l.messages) (map (λ p. p.1) l.rest) l.digests
    ≡ written (digests_of g.T.AsSlice.items l.messages) (map (λ p. p.1) l.fn.order) l.fn.digests)

abbrev pub invariant-last : goal.invariant-last
invariant-last g l = All (λ p. p.1 < length l.messages) l.pair-items
    × (written (digests_of g.T.AsSlice.items l.messages) (map (λ p. p.1) (drop l.pair-index l.pair-items)) l.digests
    ≡ written (digests_of g.T.AsSlice.items l.messages) (map (λ p. p.1) l.fn.order) l.fn.digests)

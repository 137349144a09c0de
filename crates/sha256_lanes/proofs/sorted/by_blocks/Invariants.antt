use Rattle.std.proofs.Common.{◌≡◌, map}
use Rattle.std.specs.List.{range_with_len}
use Rattle.sha256_lanes.proofs.sorted.by_blocks.Given as goal

abbrev pub invariant-places : goal.invariant-places
invariant-places g l = map (λ p. p.1) l.order.items ≡ range_with_len 0 l.place

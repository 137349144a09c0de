use Rattle.std.proofs.Common.{◌≡◌, map, take}
use Rattle.commit_events.proofs.order.changes_of.Given as goal

abbrev pub invariant-loop-placed : goal.invariant-loop-placed
invariant-loop-placed g l = l.changes.items ≡ map (λ p. p.1) (take l.placed-index l.sorted)

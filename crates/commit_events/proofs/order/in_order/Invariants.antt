use Rattle.commit_events.proofs.Inserting.{Orders}
use Rattle.commit_events.proofs.order.in_order.Given as goal

abbrev pub invariant-loop-place : goal.invariant-loop-place
invariant-loop-place g l = Orders l.sorted.items l.ops l.place

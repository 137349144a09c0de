use Rattle.commit_events.proofs.Inserting.{Passed}
use Rattle.commit_events.proofs.order.place_among.Given as goal

abbrev pub invariant-loop-place : goal.invariant-loop-place
invariant-loop-place l = Passed l.sorted l.key l.place

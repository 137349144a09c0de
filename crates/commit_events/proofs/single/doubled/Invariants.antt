use Rattle.commit_events.proofs.Seen.{Singles}
use Rattle.commit_events.proofs.single.doubled.Given as goal

abbrev pub invariant-loop-place : goal.invariant-loop-place
invariant-loop-place l = Singles l.ops l.place

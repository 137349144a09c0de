use Rattle.commit_events.proofs.Seen.{SeenFrom}
use Rattle.commit_events.proofs.single.has_key.Given as goal

abbrev pub invariant-loop-op : goal.invariant-loop-op
invariant-loop-op l = SeenFrom l.ops l.key l.op-index

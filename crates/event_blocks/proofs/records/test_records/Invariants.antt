use Rattle.event_blocks.proofs.EachRecord.{Tests}
use Rattle.event_blocks.proofs.records.test_records.Given as goal

abbrev pub invariant-loop-place : goal.invariant-loop-place
invariant-loop-place g l = Tests l.places l.ops l.place

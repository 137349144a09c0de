use Rattle.std.proofs.Common.{◌≡◌}
use Rattle.script_tests.proofs.taking.take_all.Given as goal

abbrev pub invariant-loop : goal.invariant-loop
invariant-loop g l = record {
  queue : l.taker.queue_id ≡ l.fn.feed.queue_id;
  made : l.taker.made ≡ l.fn.feed.made;
  joined : l.taker.joined ≡ l.fn.feed.joined;
}

use Rattle.std.proofs.Common.{◌≡◌}
use Rattle.notice_tests.proofs.threads.take_all.Given as goal

abbrev pub invariant-loop : goal.invariant-loop
invariant-loop g l = l.taker.queue_id ≡ l.fn.feed.queue_id

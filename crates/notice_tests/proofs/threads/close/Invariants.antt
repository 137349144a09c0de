use Rattle.std.proofs.Common.{◌≡◌}
use Rattle.notice_tests.proofs.threads.close.Given as goal

abbrev pub invariant-loop-one : goal.invariant-loop-one
invariant-loop-one g l = l.feed.queue_id ≡ l.fn.feed.queue_id

abbrev pub invariant-loop : goal.invariant-loop
invariant-loop g l = l.feed.queue_id ≡ l.fn.feed.queue_id

use Rattle.std.proofs.Common.{◌≡◌}
use Rattle.notice_tests.proofs.threads.flush.Given as goal

abbrev pub invariant-loop : goal.invariant-loop
invariant-loop g l = l.writer.sender.pass.queue_id ≡ l.initial.writer.sender.pass.queue_id

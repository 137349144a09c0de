use Rattle.std.proofs.Common.{◌≡◌}
use Rattle.notice_tests.proofs.threads.write.Given as goal

abbrev pub invariant-loop-seq : goal.invariant-loop-seq
invariant-loop-seq g l = l.writer.sender.pass.queue_id ≡ l.fn.pass.queue_id

abbrev pub invariant-loop : goal.invariant-loop
invariant-loop g l = l.writer.sender.pass.queue_id ≡ l.fn.pass.queue_id

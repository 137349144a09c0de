use Rattle.std.proofs.Common.{◌≡◌, ◌≤◌}
use Rattle.std.specs.Prelude.{vec_capacity, vec_len}
use Rattle.notices.specs.Views.{fresh_passes, fresh_feed}
use Rattle.notices.proofs.queue.Queue.open.Given as goal

abbrev pub invariant-loop-writer : goal.invariant-loop-writer
invariant-loop-writer g l = record {
  passes : l.passes.items ≡ fresh_passes l.queue.queue_id l.writer;
  feed : l.feed ≡ fresh_feed l.queue.queue_id l.writer;
  len : vec_len l.passes ≡ l.writer;
  room : l.writers ≤ vec_capacity l.passes;
}

use Rattle.std.proofs.Common.{◌≡◌, length}
use Rattle.ended.specs.Ending.{notices_told}
use Rattle.host.specs.Views.{IsWriting}
use Rattle.host.proofs.writer.Writer.flush.Given as goal

abbrev pub invariant-loop-first : goal.invariant-loop-first
invariant-loop-first g l = record {
  told : notices_told l.self-inside.sender.pass l.self-inside.kept.items ≡ notices_told l.fn.self.pass l.fn.self.kept;
  writing : IsWriting l.self-inside.host.now l.self-inside.hosts.now l.self-inside.sender l.self-inside.kept.items l.self-inside.last l.self-inside.seen.items;
  refused : l.self-inside.sender.refused ≡ l.fn.self.refused;
  host : l.self-inside.host.now ≡ l.fn.self.host;
  seen : l.self-inside.seen.items ≡ l.fn.self.seen;
  queue : l.self-inside.sender.pass.queue_id ≡ l.fn.self.pass.queue_id;
  writer : l.self-inside.sender.pass.writer ≡ l.fn.self.pass.writer;
}

abbrev pub decreases-loop-first : goal.decreases-loop-first
decreases-loop-first g l = length l.self-inside.kept.items

use Rattle.std.proofs.Common.{ℕ, List, ap, ◌∙◌}
use Rattle.spec.specs.Writes.{key_of}
use Rattle.batch_laws.specs.Batch.{with_change}
use Rattle.batches.specs.Values.{write_of}
use Rattle.block.specs.Bytes.{shared_record}
use Rattle.repo.specs.Tested.{changes_in, shared_changes}
use Rattle.repo.proofs.TestedWrites.{changes-insert}
use Rattle.repo.proofs.changes.Collected.collect.Goals as goal

pub returns : goal.returns
returns g c =
    ap shared_changes c.in_ok-insert.ensures.entries
    ∙ changes-insert (λ w. shared_record w.now) c.args.self.now.writes.entries c.key.result _
    ∙ ap (λ (k : List ℕ). with_change (k, shared_record c.args.write.now) (changes_in c.args.self.now))
    (c.key.ensures ∙ ap (λ w. key_of (write_of w)) c.deref.ensures)

use Rattle.std.proofs.Common.{ℕ, List, Option, arith, sym, ap, ◌∙◌, take}
use Rattle.spec.specs.Writes.{key_of}
use Rattle.batch_laws.specs.Batch.{with_change}
use Rattle.batch_laws.specs.Collecting.{change_of, collected}
use Rattle.batch_laws.proofs.WritesAtOnce.{one_more-collected}
use Rattle.batches.specs.Values.{write_of, writes_of}
use Rattle.repo.specs.Tested.{changes_of, lent}
use Rattle.repo.proofs.Testing.{one-more-write}
use Rattle.repo.proofs.TestedWrites.{changes-insert}
use Rattle.change_commands.proofs.changed.named_by.Goals as goal

pub loop-write-preserved : goal.loop-write-preserved
loop-write-preserved c =
    let so_far = c.loop-write in
    let ws = c.args.writes.now in
    let w = c.write-item.result in
    let es = so_far.named.entries in
    let more = ap collected (one-more-write write_of ws so_far.write-index w (omega arith) c.write-item.is)
    ∙ (one_more-collected (λ bytes. bytes) (writes_of (take so_far.write-index ws)) (write_of w)).0 in
    ap changes_of c.in_ok-insert.ensures.entries
    ∙ changes-insert lent es c.key-key.result c.record-record.result
    ∙ ap (λ (k : List ℕ). with_change (k, lent c.record-record.result) (changes_of es)) c.key-key.ensures
    ∙ ap (λ (r : Option (List ℕ)). with_change (key_of (write_of w), r) (changes_of es)) c.record-record.ensures
    ∙ ap (with_change (change_of (write_of w))) so_far.invariant
    ∙ sym more

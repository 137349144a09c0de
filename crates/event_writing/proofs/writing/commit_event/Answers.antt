use Rattle.batches.specs.Values.{stamp_of, stamps_of}
use Rattle.spec.specs.States.{records}
use Rattle.repo.specs.Readings.{bytes_lent}
use Rattle.key_changes.proofs.Ascending.{are-keyed}
use Rattle.change_laws.specs.Told.{undone}
use Rattle.event_writing.specs.Views.{told_of, untold_fault_of}
use Rattle.event_writing.proofs.AtSource.{state-has}
use Rattle.event_writing.proofs.WholeMessage.{gives-stamped, gives-taken, message-none}
use Rattle.event_writing.proofs.writing.commit_event.Goals as goal

pub returns-in-Some-clause-message : goal.returns-in-Some-clause-message
returns-in-Some-clause-message g c =
    let digest = g.D.Digest.digest_of in
    gives-stamped digest g.row.B c.args.core.now c.args.before c.args.changes.now (told_of c.args.told.now)
    (stamps_of c.stamps.result.now) (stamp_of c.in-Some.stamp.now) c.stamps.ensures.value c.in-Some.ensures
    (λ m. m.items) untold_fault_of c.stamped_message.result
    (c.stamped_message.ensures (records c.args.core.now)
    (state-has digest g.row.B (bytes_lent c.lender-lender.result.blocks.now) c.args.core.now c.root-root.result c.root-root.ensures.value
    c.lender-lender.ensures.blocks c.lender-lender.ensures.tree))

pub returns-in-Some-clause-taken : goal.returns-in-Some-clause-taken
returns-in-Some-clause-taken g c =
    let digest = g.D.Digest.digest_of in
    gives-taken digest g.row.B g.met.D.Digest.digest_len c.args.core.now c.stamps.ensures.lawful c.args.before
    c.args.changes.now (are-keyed (undone c.args.changes.now) c.requires.changes) (told_of c.args.told.now)
    (λ m. m.items) untold_fault_of c.stamped_message.result
    (gives-stamped digest g.row.B c.args.core.now c.args.before c.args.changes.now (told_of c.args.told.now)
    (stamps_of c.stamps.result.now) (stamp_of c.in-Some.stamp.now) c.stamps.ensures.value c.in-Some.ensures
    (λ m. m.items) untold_fault_of c.stamped_message.result
    (c.stamped_message.ensures (records c.args.core.now)
    (state-has digest g.row.B (bytes_lent c.lender-lender.result.blocks.now) c.args.core.now c.root-root.result c.root-root.ensures.value
    c.lender-lender.ensures.blocks c.lender-lender.ensures.tree)))

pub returns-in-None-clause-message : goal.returns-in-None-clause-message
returns-in-None-clause-message g c =
    message-none g.D.Digest.digest_of g.row.B c.args.core.now c.args.before c.args.changes.now (told_of c.args.told.now)
    (stamps_of c.stamps.result.now) c.stamps.ensures.value c.in-None.ensures

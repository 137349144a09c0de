use Rattle.std.proofs.Common.{◌≡◌, ◌∙◌, List, Ok, rules, sym, subst}
use Rattle.spec.specs.States.{records, state_root}
use Rattle.batches.specs.Values.{stamp_of}
use Rattle.key_changes.specs.Keyed.{are_changes}
use Rattle.key_changes.proofs.Ascending.{are-keyed}
use Rattle.kept.specs.Fronts.{bytes_with}
use Rattle.batch_laws.specs.Batch.{AreKeyed}
use Rattle.change_laws.specs.Told.{KeyChange, undone}
use Rattle.repo.specs.Prepared.{state_after}
use Rattle.event_writing.specs.Views.{told_of, untold_fault_of}
use Rattle.event_writing.proofs.AtSource.{state-has}
use Rattle.event_writing.proofs.Refused.{clash-told, steps-are, untold-steps, untold-told}
use Rattle.event_writing.proofs.TakenSigned.{signed-taken}
use Rattle.event_writing.proofs.prepared.prepared_event.Goals as goal

pub returns-in-Err-clause-fault : goal.returns-in-Err-clause-fault
returns-in-Err-clause-fault g c =
    clash-told g.D.Digest.digest_of g.row.B c.args.prepared.now (told_of c.args.told.now) c.last_of.result c.last_of.ensures
    c.in-Err.fault c.refused.result c.refused.ensures c.in-Err.ensures.fault

pub stamp-requires : goal.stamp-requires
stamp-requires g c = search (c.requires-raw, rules)

pub returns-in-Ok-stamped_message-clause-message : goal.returns-in-Ok-stamped_message-clause-message
returns-in-Ok-stamped_message-clause-message g c =
    let digest = g.D.Digest.digest_of in
    let p = c.args.prepared.now in
    let has = state-has digest g.row.B (bytes_with digest c.in-Ok.lender) (state_after p) c.root.result c.root.ensures.value
    c.in-Ok.ensures.blocks c.in-Ok.ensures.tree in
    steps-are digest g.row.B p (told_of c.args.told.now) (stamp_of c.stamp.result.now) c.previous-previous.result c.deref.result.now
    c.stamp.ensures.value c.previous-previous.ensures.value (c.deref.ensures.value ∙ c.in_ok-changes.ensures.changes)
    ∙ c.in-Ok-stamped_message.ensures (records (state_after p)) has

pub returns-in-Ok-stamped_message-clause-taken : goal.returns-in-Ok-stamped_message-clause-taken
returns-in-Ok-stamped_message-clause-taken g c =
    let digest = g.D.Digest.digest_of in
    let p = c.args.prepared.now in
    let passed = c.root.ensures.passed in
    let has = state-has digest g.row.B (bytes_with digest c.in-Ok.lender) (state_after p) c.root.result c.root.ensures.value
    c.in-Ok.ensures.blocks c.in-Ok.ensures.tree in
    signed-taken digest g.row.B g.met.D.Digest.digest_len p.before p.stamp p.writes passed.lawful passed.after_lawful
    (subst (λ (cs : List KeyChange). AreKeyed (undone cs)) c.in_ok-changes.ensures.changes
    (are-keyed (undone c.in_ok-changes.changes.items) c.in_ok-changes.ensures.keyed))
    (told_of c.args.told.now) c.in-Ok-stamped_message.message.items
    (steps-are digest g.row.B p (told_of c.args.told.now) (stamp_of c.stamp.result.now) c.previous-previous.result c.deref.result.now
    c.stamp.ensures.value c.previous-previous.ensures.value (c.deref.ensures.value ∙ c.in_ok-changes.ensures.changes)
    ∙ c.in-Ok-stamped_message.ensures (records (state_after p)) has)

pub returns-clause-fault : goal.returns-clause-fault
returns-clause-fault g c =
    let digest = g.D.Digest.digest_of in
    let p = c.args.prepared.now in
    let told = told_of c.args.told.now in
    let has = state-has digest g.row.B (bytes_with digest c.in-Ok.lender) (state_after p) c.root.result c.root.ensures.value
    c.in-Ok.ensures.blocks c.in-Ok.ensures.tree in
    untold-told digest g.row.B p told c.in-Err-stamped_message.fault c.untold.result c.untold.ensures
    (untold-steps (untold_fault_of c.in-Err-stamped_message.fault)
    (steps-are digest g.row.B p told (stamp_of c.stamp.result.now) c.previous-previous.result c.deref.result.now
    c.stamp.ensures.value c.previous-previous.ensures.value (c.deref.ensures.value ∙ c.in_ok-changes.ensures.changes))
    (c.in-Err-stamped_message.ensures (records (state_after p)) has))

use Rattle.std.proofs.Common.{◌≡◌, ◌∙◌, true, ap, sym, subst, rules}
use Rattle.spec.specs.States.{State}
use Rattle.batches.specs.Values.{stamp_of, writes_of}
use Rattle.repo.specs.Prepared.{Prepared, prepared_of, state_after}
use Rattle.repo.specs.Refusals.{IsStoreRefusal}
use Rattle.std.proofs.lemmas.Result.{err_from_is_err_and}
use Rattle.event_writing_laws.specs.Signed.{signed_message}
use Rattle.event_writing.specs.Signing.{IsSignedTaken}
use Rattle.event_writing.specs.Views.{told_of}
use Rattle.event_writing.proofs.Refused.{asked, message-refused, root-moved, root-stays, signed-of, store-refused, taken-of, test-refused, unasked-message, unasked-refused}
use Rattle.event_writing.proofs.signing.apply_signed.Goals as goal

pub returns-then-ne-clause-fault : goal.returns-then-ne-clause-fault
returns-then-ne-clause-fault g c same =
    root-moved c.root.result c.args.previous c.ne.result c.ne.ensures c.if-ne.true (same ∙ sym c.root.ensures.value)

pub returns-in-Err-clause-fault : goal.returns-in-Err-clause-fault
returns-in-Err-clause-fault g c =
    let digest = g.D.Digest.digest_of in
    let s = c.args.core.now in
    test-refused digest g.row.B s c.args.previous (stamp_of c.args.stamp.now) (writes_of c.args.writes.now) (told_of c.args.told.now)
    (root-stays digest g.row.B s c.root.result c.args.previous c.root.ensures.value c.ne.result c.ne.ensures c.if-ne.false)
    (g.S.BlockStore.fulls c.args.store.now) c.in-Err.place c.in-Err.fault c.refused.result c.refused.ensures c.in-Err.ensures.fault

pub returns-in-Err-clause-counted : goal.returns-in-Err-clause-counted
returns-in-Err-clause-counted g c =
    let digest = g.D.Digest.digest_of in
    let s = c.args.core.now in
    unasked-refused digest g.row.B s c.args.previous (stamp_of c.args.stamp.now) (writes_of c.args.writes.now) (told_of c.args.told.now)
    (root-stays digest g.row.B s c.root.result c.args.previous c.root.ensures.value c.ne.result c.ne.ensures c.if-ne.false)
    (g.S.BlockStore.fulls c.args.store.now) c.in-Err.place c.in-Err.fault c.refused.result c.refused.ensures c.in-Err.ensures.fault

pub prepared_event-requires : goal.prepared_event-requires
prepared_event-requires g c = let fits : c.fits_in_memory.result ≡ true = search rules in (
  search (c.requires-raw, rules),
  (c.fits_in_memory.ensures fits, (c.requires.least, ap (λ (q : Prepared). q.before) c.in-Ok.ensures.prepared)),
)

pub returns-in_err-message-clause-fault : goal.returns-in_err-message-clause-fault
returns-in_err-message-clause-fault g c =
    let digest = g.D.Digest.digest_of in
    let s = c.args.core.now in
    let p = err_from_is_err_and c.from_residual.result c.from_residual.ensures.1 in
    rw (p.1, p.2) (message-refused digest g.row.B s c.args.previous (stamp_of c.args.stamp.now) (writes_of c.args.writes.now) (told_of c.args.told.now)
    (root-stays digest g.row.B s c.root.result c.args.previous c.root.ensures.value c.ne.result c.ne.ensures c.if-ne.false)
    (g.S.BlockStore.fulls c.args.store.now) c.in-Ok.prepared c.in-Ok.ensures.prepared c.in-Ok.ensures.passed c.in_err-message.field-0.0
    c.in_err-message.ensures.fault)

pub returns-in_err-message-clause-counted : goal.returns-in_err-message-clause-counted
returns-in_err-message-clause-counted g c =
    let digest = g.D.Digest.digest_of in
    let s = c.args.core.now in
    let p = err_from_is_err_and c.from_residual.result c.from_residual.ensures.1 in
    rw (p.1, p.2) (unasked-message digest g.row.B s c.args.previous (stamp_of c.args.stamp.now) (writes_of c.args.writes.now) (told_of c.args.told.now)
    (root-stays digest g.row.B s c.root.result c.args.previous c.root.ensures.value c.ne.result c.ne.ensures c.if-ne.false)
    (g.S.BlockStore.fulls c.args.store.now) c.in-Ok.prepared c.in-Ok.ensures.prepared c.in_err-message.field-0.0
    c.in_err-message.ensures.fault)

pub accept-requires : goal.accept-requires
accept-requires g c = let fits : c.fits_in_memory.result ≡ true = search rules in (
  search (c.requires-raw, rules),
  (c.fits_in_memory.ensures fits, (c.requires.store, ap (λ (q : Prepared). q.before) c.in-Ok.ensures.prepared)),
)

pub returns-in-Ok-accept-clause-from : goal.returns-in-Ok-accept-clause-from
returns-in-Ok-accept-clause-from g c =
    root-stays g.D.Digest.digest_of g.row.B c.args.core.now c.root.result c.args.previous c.root.ensures.value c.ne.result c.ne.ensures c.if-ne.false

pub returns-in-Ok-accept-clause-message : goal.returns-in-Ok-accept-clause-message
returns-in-Ok-accept-clause-message g c =
    signed-of g.D.Digest.digest_of g.row.B c.args.core.now (stamp_of c.args.stamp.now) (writes_of c.args.writes.now) (told_of c.args.told.now)
    c.in-Ok.prepared c.in-Ok.ensures.prepared c.in_ok-message.message.items c.in_ok-message.ensures.message

pub returns-in-Ok-accept-clause-taken : goal.returns-in-Ok-accept-clause-taken
returns-in-Ok-accept-clause-taken g c =
    taken-of g.D.Digest.digest_of g.row.B c.args.core.now (stamp_of c.args.stamp.now) (writes_of c.args.writes.now) (told_of c.args.told.now)
    c.in-Ok.prepared c.in-Ok.ensures.prepared c.in_ok-message.message.items c.in_ok-message.ensures.taken

pub returns-in-Err-accept-clause-fault : goal.returns-in-Err-accept-clause-fault
returns-in-Err-accept-clause-fault g c =
    let digest = g.D.Digest.digest_of in
    let s = c.args.core.now in
    let stamp = stamp_of c.args.stamp.now in
    let batch = writes_of c.args.writes.now in
    let told = told_of c.args.told.now in
    let full = g.S.BlockStore.fulls c.args.store.now in
    let fuller = g.S.BlockStore.fulls c.accept.new.store in
    store-refused digest g.row.B s c.args.previous stamp batch told
    (root-stays digest g.row.B s c.root.result c.args.previous c.root.ensures.value c.ne.result c.ne.ensures c.if-ne.false)
    full fuller c.in_ok-message.message.items
    (signed-of digest g.row.B s stamp batch told c.in-Ok.prepared c.in-Ok.ensures.prepared c.in_ok-message.message.items c.in_ok-message.ensures.message)
    c.in-Err-accept.place c.in-Err-accept.fault c.refused-in-Err-accept.result c.refused-in-Err-accept.ensures
    (subst (λ (q : Prepared). IsStoreRefusal digest g.row.B s q.stamp q.writes full fuller (c.in-Err-accept.place, c.in-Err-accept.fault))
    c.in-Ok.ensures.prepared c.in-Err-accept.ensures.fault)

pub returns-in-Err-accept-clause-counted : goal.returns-in-Err-accept-clause-counted
returns-in-Err-accept-clause-counted g c =
    asked (g.S.BlockStore.fulls c.args.store.now) (g.S.BlockStore.fulls c.accept.new.store) c.in-Err-accept.place c.in-Err-accept.fault
    c.refused-in-Err-accept.result c.refused-in-Err-accept.ensures c.in-Err-accept.ensures.counted

use Rattle.std.proofs.Common.{◌≡◌, List, true, refl, sym, ap, subst, ◌∙◌, Err}
use Rattle.std.proofs.lemmas.Result.{err_from_is_err_and}
use Rattle.batches.specs.Values.{stamp_of}
use Rattle.key_changes.specs.Keyed.{are_changes}
use Rattle.change_laws.specs.Told.{KeyChange, undone}
use Rattle.event_writing.specs.Views.{told_of, untold_fault_of}
use Rattle.event_writing.proofs.EachOp.{gives-err}
use Rattle.event_writing.proofs.WholeMessage.{ops-fail, tested-gives, told-fails}
use Rattle.event_writing.proofs.writing.stamped_message.Goals as goal

pub returns-in_err-test_told : goal.returns-in_err-test_told
returns-in_err-test_told g c =
    let p = err_from_is_err_and c.from_residual.result c.from_residual.ensures.1 in
    let e = c.in_err-test_told.field-0.0 in
    λ m has. gives-err _ e c.from_residual.result _ (p.1 ∙ ap Err p.2)
    (told-fails g.D.Digest.digest_of g.row.B m (stamp_of c.args.stamp.now) c.args.before.now
    c.args.changes.now (told_of c.args.told.now) c.deref.result.now (untold_fault_of e) c.deref.ensures.value c.in_err-test_told.ensures)

pub returns-in_err-ops : goal.returns-in_err-ops
returns-in_err-ops g c =
    let p = err_from_is_err_and c.from_residual-in_err-ops.result c.from_residual-in_err-ops.ensures.1 in
    let e = c.in_err-ops.field-0.0 in
    λ m has. gives-err _ e c.from_residual-in_err-ops.result _ (p.1 ∙ ap Err p.2)
    (ops-fail g.D.Digest.digest_of g.row.B m (stamp_of c.args.stamp.now) c.args.before.now
    c.args.changes.now (told_of c.args.told.now) c.deref.result.now c.in_ok-test_told.field-0 (untold_fault_of e)
    c.deref.ensures.value c.in_ok-test_told.ensures c.in_err-ops.ensures.told)

pub signed_message-requires : goal.signed_message-requires
signed_message-requires g c = λ k. (
  (refl, tt),
  (
    c.requires.least,
    subst (λ (xs : List KeyChange). are_changes (undone xs) ≡ true) (sym c.deref-2.ensures.value) c.in_ok-ops.ensures.changes,
  ),
)

pub returns : goal.returns
returns g c = λ m has.
    tested-gives g.D.Digest.digest_of g.row.B m (stamp_of c.args.stamp.now) c.args.before.now
    c.args.changes.now c.in_ok-ops.ops.items c.deref-2.result.now (told_of c.args.told.now) c.deref.result.now c.in_ok-test_told.field-0
    c.deref.ensures.value c.in_ok-test_told.ensures c.in_ok-ops.ensures.told c.deref-2.ensures.value
    (λ x. x.items) untold_fault_of c.signed_message.result (c.signed_message.ensures m has)

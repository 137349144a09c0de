use Rattle.std.proofs.Common.{ap, ◌∙◌, Err}
use Rattle.std.proofs.lemmas.Result.{err_from_is_err_and}
use Rattle.batches.specs.Values.{stamp_of}
use Rattle.event_writing.specs.Views.{told_of, untold_fault_of}
use Rattle.event_writing.proofs.EachOp.{gives-err}
use Rattle.event_writing.proofs.WholeMessage.{file-fails, with-made}
use Rattle.event_writing.proofs.writing.message_with.Goals as goal

pub returns-in_err-file : goal.returns-in_err-file
returns-in_err-file g c =
    let p = err_from_is_err_and c.from_residual.result c.from_residual.ensures.1 in
    let e = c.in_err-file.field-0.0 in
    λ m has. gives-err _ e c.from_residual.result _ (p.1 ∙ ap Err p.2)
    (file-fails g.D.Digest.digest_of g.row.B m (stamp_of c.args.stamp.now) c.args.commit.now c.args.before.now c.args.ops.now
    (told_of c.args.told.now) (untold_fault_of e) (c.in_err-file.ensures.file m has))

pub returns : goal.returns
returns g c = λ m has.
    with-made g.D.Digest.digest_of g.row.B m (stamp_of c.args.stamp.now) c.args.commit.now c.args.before.now
    c.args.ops.now (told_of c.args.told.now) c.in_ok-file.file.items c.deref.result.now c.cid.result c.in_ok-bytes.bytes.items
    (c.in_ok-file.ensures.file m has) c.cid.ensures c.deref.ensures.value c.in_ok-bytes.ensures

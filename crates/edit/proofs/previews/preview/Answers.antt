use Rattle.std.proofs.Common.{◌+◌, ◌++◌, map, sym, ap, subst, ◌∙◌}
use Rattle.std.specs.Arc.{arc_value}
use Rattle.std.proofs.lemmas.Result.{err_from_is_err_and}
use Rattle.spec.specs.Layer.{layer}
use Rattle.spec.specs.Blocks.{nodes}
use Rattle.edit_laws.specs.Laws.Edits.{bytes_of}
use Rattle.lookups.specs.Steps.{nodes_given}
use Rattle.lookups.specs.Trees.{bytes_given}
use Rattle.batch_laws.specs.Batch.{changed}
use Rattle.batch_laws.specs.Previous.{previous_top}
use Rattle.batch_laws.specs.Within.{IsWithin, at_top}
use Rattle.edit.specs.Batches.{answer_of, most_of}
use Rattle.edit.specs.Previews.{IsPreviewReason, IsReachedHere, IsWant}
use Rattle.edit.specs.Halts.{IsReachedFor}
use Rattle.edit.specs.States.{log_in, shapes_in}
use Rattle.edit.specs.Stops.{IsCause}
use Rattle.edit.specs.Tops.{IsEnded}
use Rattle.edit.proofs.OnTree.{keyed-changes, walk-refused}
use Rattle.key_changes.proofs.Ascending.{are-keyed}
use Rattle.edit.proofs.Previewing.{preview-of, preview-tree, preview-reason, reached-here, walk-want}
use Rattle.edit.proofs.previews.preview.Goals as goal

pub returns-in_err-changed-clause-want : goal.returns-in_err-changed-clause-want
returns-in_err-changed-clause-want g c es h =
    let digest = g.D.Digest.digest_of in
    let gives = g.S.Source.gives c.args.src.now in
    let p = err_from_is_err_and c.from_residual-in_err-changed.result c.from_residual-in_err-changed.ensures.1 in
    rw p.1
    (subst IsWant (sym p.2)
    (walk-want _ _ digest (nodes digest g.row.B es ++ nodes digest g.row.B (changed c.args.changes.now es))
    c.in_err-changed.field-0.0
    (walk-refused digest g.row.B g.met.D.Digest.digest_len (bytes_given gives) c.args.root c.args.changes.now es h _ _ ⊥ gives
    c.in_err-changed.field-0.0
    (keyed-changes digest g.row.B g.met.D.Digest.digest_len (bytes_given gives) c.args.root c.args.changes.now es h
    c.requires.changes)
    (subst (λ cs. IsCause gives (most_of digest g.row.B gives cs c.args.root + 0)
    (at_top (answer_of digest g.row.B gives cs c.args.root)) c.in_err-changed.field-0.0)
    (c.deref.ensures.value ∙ c.in_ok-hashed.ensures) c.in_err-changed.ensures.stopped.cause))))

pub returns-in_err-changed-clause-lack : goal.returns-in_err-changed-clause-lack
returns-in_err-changed-clause-lack g c =
    let digest = g.D.Digest.digest_of in
    let gives = g.S.Source.gives c.args.src.now in
    let p = err_from_is_err_and c.from_residual-in_err-changed.result c.from_residual-in_err-changed.ensures.1 in
    rw p.1
    (subst (IsPreviewReason gives (most_of digest g.row.B gives c.args.changes.now c.args.root)
    (answer_of digest g.row.B gives c.args.changes.now c.args.root)) (sym p.2)
    (preview-reason _ _ gives (most_of digest g.row.B gives c.args.changes.now c.args.root)
    (answer_of digest g.row.B gives c.args.changes.now c.args.root) c.in_err-changed.field-0.0
    (subst (λ cs. IsCause gives (most_of digest g.row.B gives cs c.args.root + 0)
    (at_top (answer_of digest g.row.B gives cs c.args.root)) c.in_err-changed.field-0.0)
    (c.deref.ensures.value ∙ c.in_ok-hashed.ensures) c.in_err-changed.ensures.stopped.cause)))

pub returns-clause-preview : goal.returns-clause-preview
returns-clause-preview g c =
    let digest = g.D.Digest.digest_of in
    let gives = g.S.Source.gives c.args.src.now in
    let n = c.in_ok-changed.changed in
    let ended = subst (λ cs. IsEnded (answer_of digest g.row.B gives cs c.args.root) n.root n.gone (log_in n.edge))
    (c.deref.ensures.value ∙ c.in_ok-hashed.ensures) c.in_ok-changed.ensures.changed in
    preview-of digest g.row.B gives c.args.changes.now c.args.root n.root n.gone (log_in n.edge) n.previous.items
    (map arc_value c.in_ok-read.read.items) ended
    (λ m shown. c.in_ok-changed.ensures.previous m shown
    ∙ ap (λ cs. previous_top (nodes_given gives) (layer digest g.row.B) cs m) (c.deref.ensures.value ∙ c.in_ok-hashed.ensures))
    (c.in_ok-read.ensures ∙ ap (λ ys. bytes_of (shapes_in ys)) c.deref-2.ensures.value)

pub returns-clause-tree : goal.returns-clause-tree
returns-clause-tree g c es h =
    let digest = g.D.Digest.digest_of in
    let gives = g.S.Source.gives c.args.src.now in
    let n = c.in_ok-changed.changed in
    let ended = subst (λ cs. IsEnded (answer_of digest g.row.B gives cs c.args.root) n.root n.gone (log_in n.edge))
    (c.deref.ensures.value ∙ c.in_ok-hashed.ensures) c.in_ok-changed.ensures.changed in
    preview-tree digest g.row.B g.met.D.Digest.digest_len (bytes_given gives) c.args.root c.args.changes.now es h n.root
    n.previous.items (map arc_value c.in_ok-read.read.items) ended.left ended.next
    (are-keyed c.args.changes.now c.requires.changes).ascending ended.is
    (λ m shown. c.in_ok-changed.ensures.previous m shown
    ∙ ap (λ cs. previous_top (nodes_given gives) (layer digest g.row.B) cs m) (c.deref.ensures.value ∙ c.in_ok-hashed.ensures))
    (c.in_ok-read.ensures ∙ ap (λ ys. bytes_of (shapes_in ys)) c.deref-2.ensures.value ∙ ap bytes_of ended.read)

pub returns-in_err-read-clause-want : goal.returns-in_err-read-clause-want
returns-in_err-read-clause-want g c es h =
    let p = err_from_is_err_and c.from_residual-in_err-read.result c.from_residual-in_err-read.ensures.1 in
    rw p.1 (subst IsWant (sym p.2) tt)

pub returns-in_err-changed-clause-reached : goal.returns-in_err-changed-clause-reached
returns-in_err-changed-clause-reached g c =
    let digest = g.D.Digest.digest_of in
    let gives = g.S.Source.gives c.args.src.now in
    let p = err_from_is_err_and c.from_residual-in_err-changed.result c.from_residual-in_err-changed.ensures.1 in
    let most = most_of digest g.row.B gives c.args.changes.now c.args.root in
    let answer = answer_of digest g.row.B gives c.args.changes.now c.args.root in
    let fault = c.in_err-changed.field-0.0 in
    rw p.1
    (subst (IsReachedHere most answer) (sym p.2)
    (reached-here _ _ most answer fault
    (subst (λ cs. IsReachedFor (most_of digest g.row.B gives cs c.args.root) (answer_of digest g.row.B gives cs c.args.root) fault)
    (c.deref.ensures.value ∙ c.in_ok-hashed.ensures) c.in_err-changed.ensures.reached)))

pub returns-clause-reached : goal.returns-clause-reached
returns-clause-reached g c =
    let digest = g.D.Digest.digest_of in
    let gives = g.S.Source.gives c.args.src.now in
    subst (λ cs. IsWithin (most_of digest g.row.B gives cs c.args.root) (at_top (answer_of digest g.row.B gives cs c.args.root)))
    (c.deref.ensures.value ∙ c.in_ok-hashed.ensures) c.in_ok-changed.ensures.reached

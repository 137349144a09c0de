use Rattle.std.proofs.Common.{map, sym, ap, subst, ◌∙◌, Err}
use Rattle.std.specs.Arc.{arc_value}
use Rattle.std.proofs.lemmas.Result.{err_from_is_err_and}
use Rattle.edit.specs.Batches.{answer_of, most_of}
use Rattle.batch_laws.specs.Within.{IsWithin, at_top}
use Rattle.edit.specs.Previews.{IsPreview, IsPreviewReason, IsPreviewReached}
use Rattle.change_laws.specs.Verdict.{are_told}
use Rattle.change_proofs.specs.Verdicts.{IsSaidOver, told_of}
use Rattle.change_proofs.proofs.Saying.{preview-said, reason-said}
use Rattle.change_proofs.proofs.verifying_inversions.verify_over.Goals as goal

pub returns-in_err-found : goal.returns-in_err-found
returns-in_err-found g c =
    let digest = g.D.Digest.digest_of in
    let gives = g.S.Source.gives c.args.src.now in
    let cs = c.args.changes.now in
    let p = err_from_is_err_and c.from_residual-in_err-found.result c.from_residual-in_err-found.ensures.1 in
    rw p.1
    (subst (λ fault. IsSaidOver digest g.row.B gives c.args.before c.args.after cs (Err fault)) (sym p.2)
    (reason-said digest g.row.B gives c.args.after cs c.args.before c.in_err-found.field-0.0
    (subst (λ us. IsPreviewReason gives (most_of digest g.row.B gives us c.args.after)
    (answer_of digest g.row.B gives us c.args.after) c.in_err-found.field-0.0)
    (c.deref.ensures.value ∙ c.in_ok-undone.ensures) c.in_err-found.ensures.lack)
    (subst (λ us. IsPreviewReached digest g.row.B gives c.args.after us (Err c.in_err-found.field-0.0))
    (c.deref.ensures.value ∙ c.in_ok-undone.ensures) c.in_err-found.ensures.reached)))

pub returns : goal.returns
returns g c =
    let digest = g.D.Digest.digest_of in
    let gives = g.S.Source.gives c.args.src.now in
    let cs = c.args.changes.now in
    let n = c.in_ok-found.found in
    let p = subst (λ us. IsPreview digest g.row.B gives us c.args.after n.root n.previous.items (map arc_value n.read.items))
    (c.deref.ensures.value ∙ c.in_ok-undone.ensures) c.in_ok-found.ensures.preview in
    let few = subst (λ us. IsWithin (most_of digest g.row.B gives us c.args.after)
    (at_top (answer_of digest g.row.B gives us c.args.after)))
    (c.deref.ensures.value ∙ c.in_ok-undone.ensures) c.in_ok-found.ensures.reached in
    preview-said digest g.row.B gives c.args.after cs c.args.before n.root n.previous.items (map arc_value n.read.items) p few
    (told_of c.first_other.result) (ap (λ vs. are_told 0 vs cs) (sym c.deref-2.ensures.value) ∙ c.first_other.ensures)
    c.judged.result c.judged.ensures

use Rattle.std.proofs.Common.{◌≡◌, ◌+◌, ◌++◌, map, sym, ap, subst, ◌∙◌, arith}
use Rattle.std.specs.declared.option.Option.TheVariants.{Some, None}
use Rattle.std.specs.Arc.{arc_value}
use Rattle.std.proofs.lemmas.List.{length-map}
use Rattle.std.proofs.lemmas.Result.{err_from_is_err_and}
use Rattle.spec.specs.Blocks.{nodes, value_of}
use Rattle.spec.specs.Writes.{without_key}
use Rattle.rows.specs.Drafts.{shape_in}
use Rattle.lookups.specs.Steps.{layers, nodes_given}
use Rattle.lookups.specs.Trees.{bytes_given}
use Rattle.edit.specs.Batches.{IsReason, answer_of, most_of}
use Rattle.edit.specs.Refusals.{IsRefusal, IsAbsence}
use Rattle.edit.specs.Singles.{first_value, IsAbsent}
use Rattle.edit.specs.States.{log_in}
use Rattle.edit.proofs.Among.{refusal-within}
use Rattle.edit.proofs.Answering.{gone-within}
use Rattle.edit.proofs.Results.{on_ok, if-ok, if-ok-two, if-err}
use Rattle.edit.proofs.OneChange.{walk-absence}
use Rattle.edit.proofs.OneDelete.{deleting, can-read, is-absent, value-met, delete-edit, delete-refused, stopped-few, delete-counts, delete-path, ended-few, delete-blocks}
use Rattle.edit.proofs.OnTree.{walk-reason, answer-reason}
use Rattle.edit.proofs.singles.delete.Goals as goal

-- ---- the walk stopped

pub returns-in_err-changed-clause-fault : goal.returns-in_err-changed-clause-fault
returns-in_err-changed-clause-fault g c es h =
    let digest = g.D.Digest.digest_of in
    let given = g.S.Source.gives c.args.src.now in
    let absent = value_of c.args.key.now es ≡ None in
    let p = err_from_is_err_and c.from_residual-in_err-changed.result c.from_residual-in_err-changed.ensures.1 in
    rw p.1
    (subst (IsRefusal digest (nodes digest g.row.B es ++ nodes digest g.row.B (without_key es c.args.key.now)) absent) (sym p.2)
    (delete-refused digest g.row.B g.met.D.Digest.digest_len (bytes_given given) c.args.root c.args.key.now es h _ _ absent
    given c.in_err-changed.field-0.0 c.in_err-changed.ensures.stopped.cause))

pub returns-in_err-changed-clause-lack : goal.returns-in_err-changed-clause-lack
returns-in_err-changed-clause-lack g c =
    let digest = g.D.Digest.digest_of in
    let given = g.S.Source.gives c.args.src.now in
    let most = most_of digest g.row.B given (deleting c.args.key.now) c.args.root in
    let answer = answer_of digest g.row.B given (deleting c.args.key.now) c.args.root in
    let absent = IsAbsent (nodes_given given) (layers g.row.B) c.args.key.now c.args.root in
    let p = err_from_is_err_and c.from_residual-in_err-changed.result c.from_residual-in_err-changed.ensures.1 in
    rw p.1
    (subst (IsReason given most answer absent) (sym p.2)
    (walk-reason _ absent given most answer c.in_err-changed.field-0.0 c.in_err-changed.ensures.stopped.cause))

pub returns-in_err-changed-clause-missing : goal.returns-in_err-changed-clause-missing
returns-in_err-changed-clause-missing g c cannot =
    let p = err_from_is_err_and c.from_residual-in_err-changed.result c.from_residual-in_err-changed.ensures.1 in
    rw p.1 (subst IsAbsence (sym p.2) (walk-absence _ _ c.in_err-changed.field-0.0))

pub returns-in_err-changed-clause-layers : goal.returns-in_err-changed-clause-layers
returns-in_err-changed-clause-layers g c es h =
    stopped-few g.D.Digest.digest_of g.row.B g.met.D.Digest.digest_len (bytes_given (g.S.Source.gives c.args.src.now))
    c.args.root c.args.key.now es h (g.S.Source.reads c.change_one.new.src) (g.S.Source.reads c.args.src.now)
    c.in_err-changed.ensures.stopped.reads

-- ---- the key isn't there

pub returns-in_default-clause-fault : goal.returns-in_default-clause-fault
returns-in_default-clause-fault g c es h =
    let n = c.in_ok-changed.changed in
    let none : first_value n.previous.items ≡ None =
    sym (c.value_before.ensures ∙ ap first_value c.deref.ensures.value) ∙ c.in_default.is in
    sym (value-met g.D.Digest.digest_of g.row.B g.met.D.Digest.digest_len (bytes_given (g.S.Source.gives c.args.src.now))
    c.args.root c.args.key.now es h n.previous.items c.in_ok-changed.ensures.previous)
    ∙ none

pub returns-in_default-clause-lack : goal.returns-in_default-clause-lack
returns-in_default-clause-lack g c =
    let n = c.in_ok-changed.changed in
    let none : first_value n.previous.items ≡ None =
    sym (c.value_before.ensures ∙ ap first_value c.deref.ensures.value) ∙ c.in_default.is in
    is-absent g.D.Digest.digest_of g.row.B g.met.D.Digest.digest_len (nodes_given (g.S.Source.gives c.args.src.now))
    c.args.key.now c.args.root _ c.in_ok-changed.ensures.changed.is n.previous.items c.in_ok-changed.ensures.previous none

pub returns-in_default-clause-layers : goal.returns-in_default-clause-layers
returns-in_default-clause-layers g c es h =
    let n = c.in_ok-changed.changed in
    let f = ended-few g.D.Digest.digest_of g.row.B g.met.D.Digest.digest_len (bytes_given (g.S.Source.gives c.args.src.now))
    c.args.root c.args.key.now es h n.root n.gone (log_in n.edge) c.in_ok-changed.ensures.changed in
    let m = length-map n.edge.read.items (λ b. shape_in (arc_value b)) in
    let r = c.in_ok-changed.ensures.counted in
    omega (arith, f, m, r)

-- ---- it was there

pub edit_of-requires : goal.edit_of-requires
edit_of-requires g c =
    let e = c.in_ok-changed.changed.edge in
    let w = gone-within g.D.Digest.digest_of _ _ _ (log_in e) c.in_ok-changed.ensures.changed in
    let m = length-map e.read.items (λ b. shape_in (arc_value b)) in
    omega (arith, w, m)

pub returns-clause-edit : goal.returns-clause-edit
returns-clause-edit g c es h =
    let n = c.in_ok-changed.changed in
    let some : first_value n.previous.items ≡ Some c.in-Some.field-0 =
    sym (c.value_before.ensures ∙ ap first_value c.deref.ensures.value) ∙ c.in-Some.is in
    let there : value_of c.args.key.now es ≡ Some c.in-Some.field-0 =
    sym (value-met g.D.Digest.digest_of g.row.B g.met.D.Digest.digest_len (bytes_given (g.S.Source.gives c.args.src.now))
    c.args.root c.args.key.now es h n.previous.items c.in_ok-changed.ensures.previous)
    ∙ some in
    if-ok-two c.edit_of.result
    (λ e is first. delete-edit g.D.Digest.digest_of g.row.B g.met.D.Digest.digest_len
    (bytes_given (g.S.Source.gives c.args.src.now)) c.args.root c.args.key.now es h _ there e.root
    (map arc_value e.add.items) e.drop.items n.previous.items e.previous is c.in_ok-changed.ensures.previous first)
    (c.edit_of.ensures.answer _ c.in_ok-changed.ensures.changed) c.edit_of.ensures.previous

pub returns-clause-fault : goal.returns-clause-fault
returns-clause-fault g c es h =
    let digest = g.D.Digest.digest_of in
    let n = c.in_ok-changed.changed in
    if-err c.edit_of.result
    (λ f r. refusal-within digest (value_of c.args.key.now es ≡ None) _
    (nodes digest g.row.B es ++ nodes digest g.row.B (without_key es c.args.key.now)) f
    (delete-blocks digest g.row.B g.met.D.Digest.digest_len (bytes_given (g.S.Source.gives c.args.src.now)) c.args.root
    c.args.key.now es h n.root n.gone (log_in n.edge) c.in_ok-changed.ensures.changed) r)
    c.edit_of.ensures.fault

pub returns-clause-lack : goal.returns-clause-lack
returns-clause-lack g c =
    let digest = g.D.Digest.digest_of in
    let given = g.S.Source.gives c.args.src.now in
    let most = most_of digest g.row.B given (deleting c.args.key.now) c.args.root in
    let answer = answer_of digest g.row.B given (deleting c.args.key.now) c.args.root in
    let absent = IsAbsent (nodes_given given) (layers g.row.B) c.args.key.now c.args.root in
    if-err c.edit_of.result
    (λ f r. answer-reason digest _ absent given most answer _ f c.in_ok-changed.ensures.changed.is r) c.edit_of.ensures.fault

pub returns-clause-missing : goal.returns-clause-missing
returns-clause-missing g c cannot =
    let n = c.in_ok-changed.changed in
    let some : first_value n.previous.items ≡ Some c.in-Some.field-0 =
    sym (c.value_before.ensures ∙ ap first_value c.deref.ensures.value) ∙ c.in-Some.is in
    absurd (cannot (can-read g.D.Digest.digest_of g.row.B g.met.D.Digest.digest_len
    (nodes_given (g.S.Source.gives c.args.src.now)) c.args.key.now c.args.root _ c.in_ok-changed.ensures.changed.is
    n.previous.items c.in_ok-changed.ensures.previous _ some))

pub returns-clause-reads : goal.returns-clause-reads
returns-clause-reads g c es h =
    let n = c.in_ok-changed.changed in
    let some : first_value n.previous.items ≡ Some c.in-Some.field-0 =
    sym (c.value_before.ensures ∙ ap first_value c.deref.ensures.value) ∙ c.in-Some.is in
    let there : value_of c.args.key.now es ≡ Some c.in-Some.field-0 =
    sym (value-met g.D.Digest.digest_of g.row.B g.met.D.Digest.digest_len (bytes_given (g.S.Source.gives c.args.src.now))
    c.args.root c.args.key.now es h n.previous.items c.in_ok-changed.ensures.previous)
    ∙ some in
    on_ok c.edit_of.result
    (c.in_ok-changed.ensures.counted
    ∙ ap (λ m. g.S.Source.reads c.args.src.now + m)
    (sym (length-map n.edge.read.items (λ b. shape_in (arc_value b)))
    ∙ delete-counts g.D.Digest.digest_of g.row.B g.met.D.Digest.digest_len (bytes_given (g.S.Source.gives c.args.src.now))
    c.args.root c.args.key.now es h _ there n.root n.gone (log_in n.edge) c.in_ok-changed.ensures.changed))

pub returns-clause-layers : goal.returns-clause-layers
returns-clause-layers g c es h =
    let n = c.in_ok-changed.changed in
    let f = ended-few g.D.Digest.digest_of g.row.B g.met.D.Digest.digest_len (bytes_given (g.S.Source.gives c.args.src.now))
    c.args.root c.args.key.now es h n.root n.gone (log_in n.edge) c.in_ok-changed.ensures.changed in
    let m = length-map n.edge.read.items (λ b. shape_in (arc_value b)) in
    let r = c.in_ok-changed.ensures.counted in
    omega (arith, f, m, r)

pub returns-clause-nodes : goal.returns-clause-nodes
returns-clause-nodes g c es h =
    let n = c.in_ok-changed.changed in
    let some : first_value n.previous.items ≡ Some c.in-Some.field-0 =
    sym (c.value_before.ensures ∙ ap first_value c.deref.ensures.value) ∙ c.in-Some.is in
    let there : value_of c.args.key.now es ≡ Some c.in-Some.field-0 =
    sym (value-met g.D.Digest.digest_of g.row.B g.met.D.Digest.digest_len (bytes_given (g.S.Source.gives c.args.src.now))
    c.args.root c.args.key.now es h n.previous.items c.in_ok-changed.ensures.previous)
    ∙ some in
    if-ok c.edit_of.result
    (λ e is. is ∙ delete-path g.D.Digest.digest_of g.row.B g.met.D.Digest.digest_len
    (bytes_given (g.S.Source.gives c.args.src.now)) c.args.root c.args.key.now es h _ there n.root n.gone (log_in n.edge)
    c.in_ok-changed.ensures.changed)
    c.edit_of.ensures.read

use Rattle.std.proofs.Common.{[], ◌+◌, ◌++◌, map, sym, ap, subst, ◌∙◌, arith}
use Rattle.std.specs.Arc.{arc_value}
use Rattle.std.proofs.lemmas.List.{length-map}
use Rattle.std.proofs.lemmas.Result.{err_from_is_err_and}
use Rattle.spec.specs.Layer.{layer}
use Rattle.spec.specs.Blocks.{nodes}
use Rattle.rows.specs.Drafts.{shape_in}
use Rattle.lookups.specs.Steps.{nodes_given}
use Rattle.lookups.specs.Trees.{bytes_given}
use Rattle.batch_laws.specs.Batch.{changed}
use Rattle.batch_laws.specs.Previous.{previous_top}
use Rattle.edit.specs.Batches.{IsReason, answer_of, most_of}
use Rattle.edit.specs.Refusals.{IsRefusal}
use Rattle.edit.specs.States.{log_in}
use Rattle.batch_laws.specs.Within.{at_top}
use Rattle.edit.specs.Stops.{IsCause, IsStopped}
use Rattle.edit.specs.Tops.{IsEnded}
use Rattle.edit.proofs.Among.{refusal-within}
use Rattle.edit.proofs.Answering.{gone-within, answered, read-for}
use Rattle.edit.proofs.OnTree.{keyed-changes, answer-reason, walk-refused, walk-reason, walk-few, tree-bytes, tree-reads, tree-few, tree-nodes, batch-edit}
use Rattle.key_changes.proofs.Ascending.{are-keyed}
use Rattle.edit.proofs.Results.{on_ok, if-ok, if-ok-two, if-err}
use Rattle.edit.proofs.applying.apply.Goals as goal

pub returns-in_err-changed-clause-fault : goal.returns-in_err-changed-clause-fault
returns-in_err-changed-clause-fault g c es h =
    let digest = g.D.Digest.digest_of in
    let gives = g.S.Source.gives c.args.src.now in
    let p = err_from_is_err_and c.from_residual-in_err-changed.result c.from_residual-in_err-changed.ensures.1 in
    rw p.1
    (subst (IsRefusal digest (nodes digest g.row.B es ++ nodes digest g.row.B (changed c.args.changes.now es)) ⊥) (sym p.2)
    (walk-refused digest g.row.B g.met.D.Digest.digest_len (bytes_given gives) c.args.root c.args.changes.now es h _ _ ⊥ gives
    c.in_err-changed.field-0.0
    (keyed-changes digest g.row.B g.met.D.Digest.digest_len (bytes_given gives) c.args.root c.args.changes.now es h
    c.requires.changes)
    (subst (λ cs. IsCause gives (most_of digest g.row.B gives cs c.args.root + 0)
    (at_top (answer_of digest g.row.B gives cs c.args.root)) c.in_err-changed.field-0.0)
    (c.deref.ensures.value ∙ c.in_ok-hashed.ensures) c.in_err-changed.ensures.stopped.cause)))

pub returns-in_err-changed-clause-lack : goal.returns-in_err-changed-clause-lack
returns-in_err-changed-clause-lack g c =
    let digest = g.D.Digest.digest_of in
    let gives = g.S.Source.gives c.args.src.now in
    let p = err_from_is_err_and c.from_residual-in_err-changed.result c.from_residual-in_err-changed.ensures.1 in
    rw p.1
    (subst (IsReason gives (most_of digest g.row.B gives c.args.changes.now c.args.root)
    (answer_of digest g.row.B gives c.args.changes.now c.args.root) ⊥) (sym p.2)
    (walk-reason _ ⊥ gives (most_of digest g.row.B gives c.args.changes.now c.args.root)
    (answer_of digest g.row.B gives c.args.changes.now c.args.root) c.in_err-changed.field-0.0
    (subst (λ cs. IsCause gives (most_of digest g.row.B gives cs c.args.root + 0)
    (at_top (answer_of digest g.row.B gives cs c.args.root)) c.in_err-changed.field-0.0)
    (c.deref.ensures.value ∙ c.in_ok-hashed.ensures) c.in_err-changed.ensures.stopped.cause)))

pub returns-in_err-changed-clause-layers : goal.returns-in_err-changed-clause-layers
returns-in_err-changed-clause-layers g c es h =
    let digest = g.D.Digest.digest_of in
    let gives = g.S.Source.gives c.args.src.now in
    let stopped = subst (λ cs. IsStopped gives (
      g.S.Source.reads c.args.src.now,
      most_of digest g.row.B gives cs c.args.root,
    ) (g.S.Source.reads c.change_tree.new.src)
    (record { read = []; made = [] }) (at_top (answer_of digest g.row.B gives cs c.args.root)) c.in_err-changed.field-0.0)
    (c.deref.ensures.value ∙ c.in_ok-hashed.ensures) c.in_err-changed.ensures.stopped in
    walk-few digest g.row.B g.met.D.Digest.digest_len (bytes_given gives) c.args.root c.args.changes.now es h
    (g.S.Source.reads c.change_tree.new.src) (g.S.Source.reads c.args.src.now) stopped.reads

pub difference_of-requires : goal.difference_of-requires
difference_of-requires g c =
    let e = c.in_ok-changed.changed.edge in
    let w = gone-within g.D.Digest.digest_of _ _ _ (log_in e) c.in_ok-changed.ensures.changed in
    let m = length-map e.read.items (λ b. shape_in (arc_value b)) in
    omega (arith, w, m)

pub returns-clause-fault : goal.returns-clause-fault
returns-clause-fault g c es h =
    let digest = g.D.Digest.digest_of in
    let gives = g.S.Source.gives c.args.src.now in
    let n = c.in_ok-changed.changed in
    let ended = subst (λ cs. IsEnded (answer_of digest g.row.B gives cs c.args.root) n.root n.gone (log_in n.edge))
    (c.deref.ensures.value ∙ c.in_ok-hashed.ensures) c.in_ok-changed.ensures.changed in
    if-err c.difference_of.result
    (λ f r. refusal-within digest ⊥ _
    (nodes digest g.row.B es ++ nodes digest g.row.B (changed c.args.changes.now es)) f
    (tree-nodes digest g.row.B g.met.D.Digest.digest_len (bytes_given gives) c.args.root c.args.changes.now es h n.root n.gone
    (log_in n.edge) ended) r)
    c.difference_of.ensures.fault

pub returns-clause-lack : goal.returns-clause-lack
returns-clause-lack g c =
    let digest = g.D.Digest.digest_of in
    let gives = g.S.Source.gives c.args.src.now in
    let n = c.in_ok-changed.changed in
    let ended = subst (λ cs. IsEnded (answer_of digest g.row.B gives cs c.args.root) n.root n.gone (log_in n.edge))
    (c.deref.ensures.value ∙ c.in_ok-hashed.ensures) c.in_ok-changed.ensures.changed in
    let most = most_of digest g.row.B gives c.args.changes.now c.args.root in
    let answer = answer_of digest g.row.B gives c.args.changes.now c.args.root in
    if-err c.difference_of.result (λ f r. answer-reason digest _ ⊥ gives most answer _ f ended.is r)
    c.difference_of.ensures.fault

pub returns-clause-layers : goal.returns-clause-layers
returns-clause-layers g c es h =
    let digest = g.D.Digest.digest_of in
    let gives = g.S.Source.gives c.args.src.now in
    let n = c.in_ok-changed.changed in
    let ended = subst (λ cs. IsEnded (answer_of digest g.row.B gives cs c.args.root) n.root n.gone (log_in n.edge))
    (c.deref.ensures.value ∙ c.in_ok-hashed.ensures) c.in_ok-changed.ensures.changed in
    let f = tree-few digest g.row.B g.met.D.Digest.digest_len (bytes_given gives) c.args.root c.args.changes.now es h n.root n.gone
    (log_in n.edge) ended in
    let m = length-map n.edge.read.items (λ b. shape_in (arc_value b)) in
    let r = c.in_ok-changed.ensures.counted in
    omega (arith, f, m, r)

pub returns-clause-reads : goal.returns-clause-reads
returns-clause-reads g c es h =
    let digest = g.D.Digest.digest_of in
    let gives = g.S.Source.gives c.args.src.now in
    let n = c.in_ok-changed.changed in
    let ended = subst (λ cs. IsEnded (answer_of digest g.row.B gives cs c.args.root) n.root n.gone (log_in n.edge))
    (c.deref.ensures.value ∙ c.in_ok-hashed.ensures) c.in_ok-changed.ensures.changed in
    on_ok c.difference_of.result
    (c.in_ok-changed.ensures.counted
    ∙ ap (λ m. g.S.Source.reads c.args.src.now + m)
    (sym (length-map n.edge.read.items (λ b. shape_in (arc_value b)))
    ∙ tree-reads digest g.row.B g.met.D.Digest.digest_len (bytes_given gives) c.args.root c.args.changes.now es h n.root n.gone
    (log_in n.edge) ended))

pub returns-clause-answer : goal.returns-clause-answer
returns-clause-answer g c =
    let digest = g.D.Digest.digest_of in
    let gives = g.S.Source.gives c.args.src.now in
    let n = c.in_ok-changed.changed in
    let ended = subst (λ cs. IsEnded (answer_of digest g.row.B gives cs c.args.root) n.root n.gone (log_in n.edge))
    (c.deref.ensures.value ∙ c.in_ok-hashed.ensures) c.in_ok-changed.ensures.changed in
    answered digest _ n.root n.gone (log_in n.edge) ended c.difference_of.result c.difference_of.ensures.root
    c.difference_of.ensures.add c.difference_of.ensures.drop c.difference_of.ensures.free c.difference_of.ensures.all_free

pub returns-clause-edit : goal.returns-clause-edit
returns-clause-edit g c es h =
    let digest = g.D.Digest.digest_of in
    let gives = g.S.Source.gives c.args.src.now in
    let shows = nodes_given gives in
    let lay = layer digest g.row.B in
    let n = c.in_ok-changed.changed in
    let ended = subst (λ cs. IsEnded (answer_of digest g.row.B gives cs c.args.root) n.root n.gone (log_in n.edge))
    (c.deref.ensures.value ∙ c.in_ok-hashed.ensures) c.in_ok-changed.ensures.changed in
    if-ok-two c.difference_of.result
    (λ edit is had. batch-edit digest g.row.B g.met.D.Digest.digest_len (bytes_given gives) c.args.root c.args.changes.now es h
    edit.root (map arc_value edit.add.items) edit.drop.items edit.previous.items
    (are-keyed c.args.changes.now c.requires.changes).ascending is
    (λ m shown. had ∙ c.in_ok-changed.ensures.previous m shown
    ∙ ap (λ cs. previous_top shows lay cs m) (c.deref.ensures.value ∙ c.in_ok-hashed.ensures)))
    (answered digest _ n.root n.gone (log_in n.edge) ended c.difference_of.result c.difference_of.ensures.root
    c.difference_of.ensures.add c.difference_of.ensures.drop c.difference_of.ensures.free c.difference_of.ensures.all_free)
    c.difference_of.ensures.previous

pub returns-clause-nodes : goal.returns-clause-nodes
returns-clause-nodes g c es h =
    let digest = g.D.Digest.digest_of in
    let gives = g.S.Source.gives c.args.src.now in
    let n = c.in_ok-changed.changed in
    let ended = subst (λ cs. IsEnded (answer_of digest g.row.B gives cs c.args.root) n.root n.gone (log_in n.edge))
    (c.deref.ensures.value ∙ c.in_ok-hashed.ensures) c.in_ok-changed.ensures.changed in
    if-ok c.difference_of.result
    (λ edit is. is ∙ tree-bytes digest g.row.B g.met.D.Digest.digest_len (bytes_given gives) c.args.root c.args.changes.now es h
    n.root n.gone (log_in n.edge) ended)
    c.difference_of.ensures.read

pub returns-clause-nodes_over : goal.returns-clause-nodes_over
returns-clause-nodes_over g c =
    let digest = g.D.Digest.digest_of in
    let gives = g.S.Source.gives c.args.src.now in
    let n = c.in_ok-changed.changed in
    let ended = subst (λ cs. IsEnded (answer_of digest g.row.B gives cs c.args.root) n.root n.gone (log_in n.edge))
    (c.deref.ensures.value ∙ c.in_ok-hashed.ensures) c.in_ok-changed.ensures.changed in
    read-for digest _ n.root n.gone (log_in n.edge) ended c.difference_of.result c.difference_of.ensures.root
    c.difference_of.ensures.read

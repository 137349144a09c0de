use Rattle.std.proofs.Common.{◌+◌, ◌++◌, map, sym, ap, subst, ◌∙◌, arith}
use Rattle.std.specs.Arc.{arc_value}
use Rattle.std.proofs.lemmas.List.{length-map}
use Rattle.std.proofs.lemmas.Result.{err_from_is_err_and}
use Rattle.spec.specs.Blocks.{nodes}
use Rattle.spec.specs.Writes.{with_key}
use Rattle.rows.specs.Drafts.{shape_in}
use Rattle.lookups.specs.Steps.{nodes_given}
use Rattle.lookups.specs.Trees.{bytes_given}
use Rattle.edit.specs.Batches.{IsReason, answer_of, most_of}
use Rattle.edit.specs.Refusals.{IsRefusal, IsAbsence}
use Rattle.edit.specs.States.{log_in}
use Rattle.edit.proofs.Among.{refusal-within}
use Rattle.edit.proofs.Answering.{gone-within}
use Rattle.edit.proofs.Results.{on_ok, if-ok, if-ok-two, if-err}
use Rattle.edit.proofs.OneChange.{walk-absence}
use Rattle.edit.proofs.OnePut.{putting, put-whole, put-edit, put-refused, stopped-few, put-counts, put-path, ended-few, put-nodes}
use Rattle.edit.proofs.OnTree.{walk-reason, answer-reason}
use Rattle.edit.proofs.singles.put.Goals as goal

pub returns-in_err-changed-clause-fault : goal.returns-in_err-changed-clause-fault
returns-in_err-changed-clause-fault g c es h =
    let digest = g.D.Digest.digest_of in
    let given = g.S.Source.gives c.args.src.now in
    let p = err_from_is_err_and c.from_residual-in_err-changed.result c.from_residual-in_err-changed.ensures.1 in
    rw p.1
    (subst (IsRefusal digest (nodes digest g.row.B es ++ nodes digest g.row.B (with_key es c.args.key.now c.args.value)) ⊥)
    (sym p.2)
    (put-refused digest g.row.B g.met.D.Digest.digest_len (bytes_given given) c.args.root c.args.key.now c.args.value es h _ _
    given c.in_err-changed.field-0.0 c.requires.key c.in_err-changed.ensures.stopped.cause))

pub returns-in_err-changed-clause-lack : goal.returns-in_err-changed-clause-lack
returns-in_err-changed-clause-lack g c =
    let digest = g.D.Digest.digest_of in
    let given = g.S.Source.gives c.args.src.now in
    let most = most_of digest g.row.B given (putting c.args.key.now c.args.value) c.args.root in
    let answer = answer_of digest g.row.B given (putting c.args.key.now c.args.value) c.args.root in
    let p = err_from_is_err_and c.from_residual-in_err-changed.result c.from_residual-in_err-changed.ensures.1 in
    rw p.1
    (subst (IsReason given most answer ⊥) (sym p.2)
    (walk-reason _ ⊥ given most answer c.in_err-changed.field-0.0 c.in_err-changed.ensures.stopped.cause))

pub returns-in_err-changed-clause-missing : goal.returns-in_err-changed-clause-missing
returns-in_err-changed-clause-missing g c not_whole =
    let p = err_from_is_err_and c.from_residual-in_err-changed.result c.from_residual-in_err-changed.ensures.1 in
    rw p.1 (subst IsAbsence (sym p.2) (walk-absence _ _ c.in_err-changed.field-0.0))

pub returns-in_err-changed-clause-layers : goal.returns-in_err-changed-clause-layers
returns-in_err-changed-clause-layers g c es h =
    stopped-few g.D.Digest.digest_of g.row.B g.met.D.Digest.digest_len (bytes_given (g.S.Source.gives c.args.src.now))
    c.args.root c.args.key.now c.args.value es h (g.S.Source.reads c.change_one.new.src) (g.S.Source.reads c.args.src.now)
    c.in_err-changed.ensures.stopped.reads

pub edit_of-requires : goal.edit_of-requires
edit_of-requires g c =
    let e = c.in_ok-changed.changed.edge in
    let w = gone-within g.D.Digest.digest_of _ _ _ (log_in e) c.in_ok-changed.ensures.changed in
    let m = length-map e.read.items (λ b. shape_in (arc_value b)) in
    omega (arith, w, m)

pub returns-clause-edit : goal.returns-clause-edit
returns-clause-edit g c es h =
    if-ok-two c.edit_of.result
    (λ e is first. put-edit g.D.Digest.digest_of g.row.B g.met.D.Digest.digest_len
    (bytes_given (g.S.Source.gives c.args.src.now)) c.args.root c.args.key.now c.args.value es h e.root
    (map arc_value e.add.items) e.drop.items c.in_ok-changed.changed.previous.items e.previous is
    c.in_ok-changed.ensures.previous first)
    (c.edit_of.ensures.answer _ c.in_ok-changed.ensures.changed) c.edit_of.ensures.previous

pub returns-clause-fault : goal.returns-clause-fault
returns-clause-fault g c es h =
    let digest = g.D.Digest.digest_of in
    let n = c.in_ok-changed.changed in
    if-err c.edit_of.result
    (λ f r. refusal-within digest ⊥ _
    (nodes digest g.row.B es ++ nodes digest g.row.B (with_key es c.args.key.now c.args.value)) f
    (put-nodes digest g.row.B g.met.D.Digest.digest_len (bytes_given (g.S.Source.gives c.args.src.now)) c.args.root
    c.args.key.now c.args.value es h n.root n.gone (log_in n.edge) c.in_ok-changed.ensures.changed) r)
    c.edit_of.ensures.fault

pub returns-clause-lack : goal.returns-clause-lack
returns-clause-lack g c =
    let digest = g.D.Digest.digest_of in
    let given = g.S.Source.gives c.args.src.now in
    let most = most_of digest g.row.B given (putting c.args.key.now c.args.value) c.args.root in
    let answer = answer_of digest g.row.B given (putting c.args.key.now c.args.value) c.args.root in
    if-err c.edit_of.result
    (λ f r. answer-reason digest _ ⊥ given most answer _ f c.in_ok-changed.ensures.changed.is r) c.edit_of.ensures.fault

pub returns-clause-missing : goal.returns-clause-missing
returns-clause-missing g c not_whole =
    absurd (not_whole (put-whole g.D.Digest.digest_of g.row.B g.met.D.Digest.digest_len
    (nodes_given (g.S.Source.gives c.args.src.now)) _ c.args.key.now c.args.value c.args.root _
    c.in_ok-changed.ensures.changed.is))

pub returns-clause-reads : goal.returns-clause-reads
returns-clause-reads g c es h =
    let n = c.in_ok-changed.changed in
    on_ok c.edit_of.result
    (c.in_ok-changed.ensures.counted
    ∙ ap (λ m. g.S.Source.reads c.args.src.now + m)
    (sym (length-map n.edge.read.items (λ b. shape_in (arc_value b)))
    ∙ put-counts g.D.Digest.digest_of g.row.B g.met.D.Digest.digest_len (bytes_given (g.S.Source.gives c.args.src.now))
    c.args.root c.args.key.now c.args.value es h n.root n.gone (log_in n.edge) c.in_ok-changed.ensures.changed))

pub returns-clause-layers : goal.returns-clause-layers
returns-clause-layers g c es h =
    let n = c.in_ok-changed.changed in
    let f = ended-few g.D.Digest.digest_of g.row.B g.met.D.Digest.digest_len (bytes_given (g.S.Source.gives c.args.src.now))
    c.args.root c.args.key.now c.args.value es h n.root n.gone (log_in n.edge) c.in_ok-changed.ensures.changed in
    let m = length-map n.edge.read.items (λ b. shape_in (arc_value b)) in
    let r = c.in_ok-changed.ensures.counted in
    omega (arith, f, m, r)

pub returns-clause-nodes : goal.returns-clause-nodes
returns-clause-nodes g c es h =
    let n = c.in_ok-changed.changed in
    if-ok c.edit_of.result
    (λ e is. is ∙ put-path g.D.Digest.digest_of g.row.B g.met.D.Digest.digest_len
    (bytes_given (g.S.Source.gives c.args.src.now)) c.args.root c.args.key.now c.args.value es h n.root n.gone (log_in n.edge)
    c.in_ok-changed.ensures.changed)
    c.edit_of.ensures.read

use Rattle.std.proofs.Common.{map, sym, ap, subst, ◌∙◌}
use Rattle.std.specs.Arc.{arc_value}
use Rattle.std.proofs.lemmas.Result.{err_from_is_err_and}
use Rattle.edit.specs.Batches.{answer_of, most_of}
use Rattle.edit.specs.Previews.{IsPreview, IsPreviewOf, IsPreviewReason}
use Rattle.change_proofs.specs.Provings.{AreNodes, AreNodesOver, IsFaultOf, IsLackOver}
use Rattle.change_proofs.proofs.ReadNodes.{ok-with, err-with, tree-nodes, tree-other, tree-want, over-nodes, over-other, over-lack}
use Rattle.change_proofs.proofs.proving_inversions.prove_inversion_over.Goals as goal

pub returns-in_err-found-clause-fault : goal.returns-in_err-found-clause-fault
returns-in_err-found-clause-fault g c es h =
    let cs = c.args.changes.now in
    let p = err_from_is_err_and c.from_residual-in_err-found.result c.from_residual-in_err-found.ensures.1 in
    rw p.1 (subst (IsFaultOf es cs) (sym p.2) (tree-want cs es c.in_err-found.field-0.0 (c.in_err-found.ensures.want es h)))

pub returns-in_err-found-clause-lack : goal.returns-in_err-found-clause-lack
returns-in_err-found-clause-lack g c =
    let digest = g.D.Digest.digest_of in
    let gives = g.S.Source.gives c.args.src.now in
    let cs = c.args.changes.now in
    let p = err_from_is_err_and c.from_residual-in_err-found.result c.from_residual-in_err-found.ensures.1 in
    rw p.1
    (subst (IsLackOver digest g.row.B gives c.args.root cs) (sym p.2)
    (over-lack digest g.row.B gives c.args.root cs c.in_err-found.field-0.0
    (subst (λ us. IsPreviewReason gives (most_of digest g.row.B gives us c.args.root)
    (answer_of digest g.row.B gives us c.args.root) c.in_err-found.field-0.0)
    (c.deref.ensures.value ∙ c.in_ok-undone.ensures) c.in_err-found.ensures.lack)))

pub returns-clause-proof : goal.returns-clause-proof
returns-clause-proof g c es h =
    let digest = g.D.Digest.digest_of in
    let cs = c.args.changes.now in
    let n = c.in_ok-found.found in
    let p = subst (λ us. IsPreviewOf digest g.row.B us es n.root n.previous.items (map arc_value n.read.items))
    (c.deref.ensures.value ∙ c.in_ok-undone.ensures) (c.in_ok-found.ensures.tree es h) in
    ok-with c.told_nodes.result
    (λ nodes is told. subst (AreNodes digest g.row.B cs es) (sym (ap (map arc_value) is))
    (tree-nodes digest g.row.B cs es n.root n.previous.items (map arc_value n.read.items) p told)) c.told_nodes.ensures.nodes
    c.told_nodes.ensures.told

pub returns-clause-fault : goal.returns-clause-fault
returns-clause-fault g c es h =
    let digest = g.D.Digest.digest_of in
    let cs = c.args.changes.now in
    let n = c.in_ok-found.found in
    let p = subst (λ us. IsPreviewOf digest g.row.B us es n.root n.previous.items (map arc_value n.read.items))
    (c.deref.ensures.value ∙ c.in_ok-undone.ensures) (c.in_ok-found.ensures.tree es h) in
    err-with c.told_nodes.result
    (λ fault is. tree-other digest g.row.B cs es n.root n.previous.items (map arc_value n.read.items) p fault is)
    c.told_nodes.ensures.other

pub returns-clause-nodes : goal.returns-clause-nodes
returns-clause-nodes g c =
    let digest = g.D.Digest.digest_of in
    let gives = g.S.Source.gives c.args.src.now in
    let cs = c.args.changes.now in
    let n = c.in_ok-found.found in
    let p = subst (λ us. IsPreview digest g.row.B gives us c.args.root n.root n.previous.items (map arc_value n.read.items))
    (c.deref.ensures.value ∙ c.in_ok-undone.ensures) c.in_ok-found.ensures.preview in
    ok-with c.told_nodes.result
    (λ nodes is told. subst (AreNodesOver digest g.row.B gives c.args.root cs) (sym (ap (map arc_value) is))
    (over-nodes digest g.row.B gives c.args.root cs n.root n.previous.items (map arc_value n.read.items) p told))
    c.told_nodes.ensures.nodes c.told_nodes.ensures.told

pub returns-clause-lack : goal.returns-clause-lack
returns-clause-lack g c =
    let digest = g.D.Digest.digest_of in
    let gives = g.S.Source.gives c.args.src.now in
    let cs = c.args.changes.now in
    let n = c.in_ok-found.found in
    let p = subst (λ us. IsPreview digest g.row.B gives us c.args.root n.root n.previous.items (map arc_value n.read.items))
    (c.deref.ensures.value ∙ c.in_ok-undone.ensures) c.in_ok-found.ensures.preview in
    err-with c.told_nodes.result
    (λ fault is. over-other digest g.row.B gives c.args.root cs n.root n.previous.items (map arc_value n.read.items) p fault is)
    c.told_nodes.ensures.other

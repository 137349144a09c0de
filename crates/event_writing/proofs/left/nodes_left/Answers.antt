use Rattle.std.proofs.Common.{sym, ap, subst, ◌∙◌, Err}
use Rattle.std.proofs.lemmas.Result.{err_from_is_err_and}
use Rattle.spec.specs.Reading.{Fails}
use Rattle.spec.specs.Blocks.{pairs}
use Rattle.event_writing.specs.Views.{untold_fault_of}
use Rattle.event_writing.specs.Sources.{sizes_given}
use Rattle.event_writing.proofs.EachOp.{gives-err}
use Rattle.event_writing.proofs.AtSource.{all-left, sizes-left, values-left}
use Rattle.event_writing.proofs.left.nodes_left.Goals as goal

pub returns-in_err-nodes-clause-told : goal.returns-in_err-nodes-clause-told
returns-in_err-nodes-clause-told g c =
    let p = err_from_is_err_and c.from_residual.result c.from_residual.ensures.1 in
    let e = c.in_err-nodes.field-0.0 in
    let digest = g.D.Digest.digest_of in
    λ m has. gives-err _ e c.from_residual.result _ (p.1 ∙ ap Err p.2)
    (values-left digest m c.args.ops.now (untold_fault_of e) (c.in_err-nodes.ensures.told (pairs digest m) has.tree))

pub returns-in_err-test_sizes-clause-told : goal.returns-in_err-test_sizes-clause-told
returns-in_err-test_sizes-clause-told g c =
    let p = err_from_is_err_and c.from_residual-in_err-test_sizes.result c.from_residual-in_err-test_sizes.ensures.1 in
    let e = c.in_err-test_sizes.field-0.0 in
    let digest = g.D.Digest.digest_of in
    let ops = c.args.ops.now in
    λ m has. gives-err _ e c.from_residual-in_err-test_sizes.result _ (p.1 ∙ ap Err p.2)
    (sizes-left digest m ops (g.S.Source.gives c.args.src.now) has.records tt (c.in_ok-nodes.ensures.told (pairs digest m) has.tree)
    (untold_fault_of e)
    (subst (λ f. Fails (untold_fault_of e) (sizes_given f 0 ops)) c.in_ok-nodes.ensures.same c.in_err-test_sizes.ensures.test))

pub returns-clause-told : goal.returns-clause-told
returns-clause-told g c =
    let digest = g.D.Digest.digest_of in
    let ops = c.args.ops.now in
    λ m has. all-left digest m ops (g.S.Source.gives c.args.src.now) has.records tt
    (c.in_ok-nodes.ensures.told (pairs digest m) has.tree) tt
    (ap (λ f. sizes_given f 0 ops) (sym c.in_ok-nodes.ensures.same) ∙ c.in_ok-test_sizes.ensures.test)

pub returns-clause-nodes : goal.returns-clause-nodes
returns-clause-nodes g c = λ m has. c.in_ok-nodes.ensures.nodes (pairs g.D.Digest.digest_of m) has.tree

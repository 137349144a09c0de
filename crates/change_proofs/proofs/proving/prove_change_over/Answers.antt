use Rattle.std.proofs.Common.{map, sym, ap, subst}
use Rattle.std.specs.Arc.{arc_value}
use Rattle.std.proofs.lemmas.Result.{err_from_is_err_and}
use Rattle.key_changes.proofs.Ascending.{are-keyed}
use Rattle.change_proofs.specs.Verdicts.{IsWant}
use Rattle.change_proofs.specs.StepProvings.{IsStepLack}
use Rattle.change_proofs.proofs.ReadNodes.{err-with}
use Rattle.change_proofs.proofs.StepNodes.{if-ok, preview-want, step-of, step-over, step-lack, want-lack}
use Rattle.change_proofs.proofs.proving.prove_change_over.Goals as goal

pub returns-in_err-found-clause-want : goal.returns-in_err-found-clause-want
returns-in_err-found-clause-want g c es h =
    let p = err_from_is_err_and c.from_residual-in_err-found.result c.from_residual-in_err-found.ensures.1 in
    rw p.1 (subst IsWant (sym p.2) (preview-want c.in_err-found.field-0.0 (c.in_err-found.ensures.want es h)))

pub returns-in_err-found-clause-lack : goal.returns-in_err-found-clause-lack
returns-in_err-found-clause-lack g c =
    let digest = g.D.Digest.digest_of in
    let gives = g.S.Source.gives c.args.src.now in
    let cs = c.args.changes.now in
    let p = err_from_is_err_and c.from_residual-in_err-found.result c.from_residual-in_err-found.ensures.1 in
    rw p.1
    (subst (IsStepLack digest g.row.B gives c.args.root cs) (sym p.2)
    (step-lack digest g.row.B gives c.args.root cs c.in_err-found.field-0.0 c.in_err-found.ensures.lack))

pub returns-clause-proof : goal.returns-clause-proof
returns-clause-proof g c es h =
    let digest = g.D.Digest.digest_of in
    let cs = c.args.changes.now in
    let n = c.in_ok-found.found in
    if-ok c.with_told.result
    (λ proof a t r. step-of digest g.row.B g.met.D.Digest.digest_len cs es (are-keyed cs c.requires.changes) h.pairs n.root
    n.previous.items (map arc_value n.read.items) (c.in_ok-found.ensures.tree es h) proof.after proof.changes.items
    (map arc_value proof.nodes.items) a t (ap (map arc_value) r)) c.with_told.ensures.after c.with_told.ensures.changes
    c.with_told.ensures.nodes

pub returns-clause-nodes : goal.returns-clause-nodes
returns-clause-nodes g c =
    let digest = g.D.Digest.digest_of in
    let gives = g.S.Source.gives c.args.src.now in
    let cs = c.args.changes.now in
    let n = c.in_ok-found.found in
    if-ok c.with_told.result
    (λ proof a t r. step-over digest g.row.B gives c.args.root cs n.root n.previous.items (map arc_value n.read.items)
    c.in_ok-found.ensures.preview proof.after proof.changes.items (map arc_value proof.nodes.items) a t
    (ap (map arc_value) r)) c.with_told.ensures.after c.with_told.ensures.changes c.with_told.ensures.nodes

pub returns-clause-lack : goal.returns-clause-lack
returns-clause-lack g c =
    let gives = g.S.Source.gives c.args.src.now in
    err-with c.with_told.result
    (λ fault w. want-lack g.D.Digest.digest_of g.row.B gives c.args.root c.args.changes.now fault w) c.with_told.ensures.want

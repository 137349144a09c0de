use Rattle.std.proofs.Common.{◌∙◌, ◌-◌, sym, ap, subst, map, Ok, Some, arith}
use Rattle.spec.specs.Reading.{◌>>=◌, Fails}
use Rattle.spec.specs.Proof.{answer_at, verified_within}
use Rattle.export.specs.Faults.{proof_fault_of}
use Rattle.node.specs.Views.{place_of}
use Rattle.export.proofs.OneNode.{node_by_node, node_fails, too_deep}
use Rattle.export.proofs.verifying_among.value_among.Goals as goal

pub returns-in-Ok-Here : goal.returns-in-Ok-Here
returns-in-Ok-Here g c =
    let given = map g.K.AsSlice.items c.args.blocks.now in
    c.loop-left.invariant ∙ node_by_node g.D.Digest.digest_of given c.args.key.now c.loop-left.cid c.loop-left.left c.loop-left-test.true
    ∙ ap (λ p. p >>= answer_at (verified_within (c.loop-left.left - 1) g.D.Digest.digest_of given c.args.key.now))
    (c.in-Ok-Here.ensures ∙ ap (λ p. Ok (place_of c.args.key.now p)) c.in-Ok-Here.field-0-is) ∙ ap (λ v. Ok (Some v)) (sym c.to_cid.ensures)

pub loop-left-preserved : goal.loop-left-preserved
loop-left-preserved g c =
    let given = map g.K.AsSlice.items c.args.blocks.now in
    c.loop-left.invariant ∙ node_by_node g.D.Digest.digest_of given c.args.key.now c.loop-left.cid c.loop-left.left c.loop-left-test.true
    ∙ ap (λ p. p >>= answer_at (verified_within (c.loop-left.left - 1) g.D.Digest.digest_of given c.args.key.now))
    (c.in-Ok-Below.ensures ∙ ap (λ p. Ok (place_of c.args.key.now p)) c.in-Ok-Below.field-0-is)
    ∙ ap (verified_within (c.loop-left.left - 1) g.D.Digest.digest_of given c.args.key.now) (sym c.to_cid-cid.ensures)

pub returns-in-Ok-Gap : goal.returns-in-Ok-Gap
returns-in-Ok-Gap g c =
    let given = map g.K.AsSlice.items c.args.blocks.now in
    c.loop-left.invariant ∙ node_by_node g.D.Digest.digest_of given c.args.key.now c.loop-left.cid c.loop-left.left c.loop-left-test.true
    ∙ ap (λ p. p >>= answer_at (verified_within (c.loop-left.left - 1) g.D.Digest.digest_of given c.args.key.now))
    (c.in-Ok-Gap.ensures ∙ ap (λ p. Ok (place_of c.args.key.now p)) c.in-Ok-Gap.field-0-is)

pub returns-in-Err : goal.returns-in-Err
returns-in-Err g c = subst (Fails (proof_fault_of c.in-Err.fault)) (sym c.loop-left.invariant) (node_fails g.D.Digest.digest_of (map g.K.AsSlice.items c.args.blocks.now) c.args.key.now c.loop-left.cid c.loop-left.left c.loop-left-test.true (proof_fault_of c.in-Err.fault) c.in-Err.ensures)

pub returns : goal.returns
returns g c =
    c.loop-left.invariant ∙ too_deep g.D.Digest.digest_of (map g.K.AsSlice.items c.args.blocks.now) c.args.key.now c.loop-left.cid c.loop-left.left (omega arith)

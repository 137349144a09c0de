use Rattle.std.proofs.Common.{◌∙◌, sym, ap, map, subst}
use Rattle.spec.specs.Reading.{Gives}
use Rattle.spec.specs.Proof.{verified_within}
use Rattle.export.specs.Faults.{proof_fault_of}
use Rattle.export.proofs.Shown.{refused, looked_up, shown_right, shown_all}
use Rattle.export.proofs.verifying.verify.Goals as goal

pub returns-then-not-is_key-clause-answer : goal.returns-then-not-is_key-clause-answer
returns-then-not-is_key-clause-answer g c = refused _ _ _ _ _ (sym c.is_key.ensures ∙ c.if-not-is_key.true)

pub returns-clause-answer : goal.returns-clause-answer
returns-clause-answer g c =
    let given = map g.K.AsSlice.items c.args.blocks.now in
    subst (Gives (λ x. x) proof_fault_of c.value_below.result)
    (ap (λ n. verified_within n g.D.Digest.digest_of given c.args.key.now c.args.root.now) c.layers.ensures
    ∙ sym (looked_up g.D.Digest.digest_of g.row.B c.args.root.now given c.args.key.now (sym c.is_key.ensures ∙ c.if-not-is_key.false)))
    c.value_below.ensures

pub returns-clause-right : goal.returns-clause-right
returns-clause-right g c es r =
    shown_right g.D.Digest.digest_of g.row.B g.met.D.Digest.digest_len c.args.root.now (map g.K.AsSlice.items c.args.blocks.now) c.args.key.now
    c.value_below.result (returns-clause-answer g c) es r.pairs r.root_is r.free

pub returns-clause-comes : goal.returns-clause-comes
returns-clause-comes g c es r key whole =
    shown_all g.D.Digest.digest_of g.row.B g.met.D.Digest.digest_len c.args.root.now (map g.K.AsSlice.items c.args.blocks.now) c.args.key.now
    c.value_below.result (returns-clause-answer g c) es r.pairs r.root_is r.free key whole

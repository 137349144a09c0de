use Rattle.std.proofs.Common.{◌∙◌, sym, ap, map, subst}
use Rattle.spec.specs.Reading.{Gives}
use Rattle.spec.specs.Proof.{verified_within}
use Rattle.export.specs.Faults.{proof_fault_of}
use Rattle.export.proofs.Shown.{refused, looked_up}
use Rattle.export.proofs.verifying_among.verify_among.Goals as goal

pub returns-then-not-is_key : goal.returns-then-not-is_key
returns-then-not-is_key g c = refused _ _ _ _ _ (sym c.is_key.ensures ∙ c.if-not-is_key.true)

pub returns : goal.returns
returns g c =
    let given = map g.K.AsSlice.items c.args.blocks.now in
    subst (Gives (λ x. x) proof_fault_of c.value_among.result)
    (ap (λ n. verified_within n g.D.Digest.digest_of given c.args.key.now c.args.root.now) c.layers.ensures
    ∙ sym (looked_up g.D.Digest.digest_of g.row.B c.args.root.now given c.args.key.now (sym c.is_key.ensures ∙ c.if-not-is_key.false)))
    c.value_among.ensures

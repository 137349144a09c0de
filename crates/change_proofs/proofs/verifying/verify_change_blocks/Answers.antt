use Rattle.std.proofs.Common.{◌≡◌, true, sym, map, subst, ◌∙◌}
use Rattle.std.specs.Arc.{arc_value}
use Rattle.key_changes.specs.Keyed.{are_changes}
use Rattle.change_laws.specs.Told.{undone}
use Rattle.change_proofs.specs.Verdicts.{IsVerdict, IsWhole, IsOfTree}
use Rattle.change_proofs.proofs.Keys.{taken-turned}
use Rattle.change_proofs.proofs.Stepped.{keyed-done, step-right, step-whole}
use Rattle.change_proofs.proofs.verifying.verify_change_blocks.Goals as goal

pub returns-clause-verdict : goal.returns-clause-verdict
returns-clause-verdict g c =
    subst (λ cs. IsVerdict g.D.Digest.digest_of g.row.B c.args.after c.args.before (map arc_value c.args.blocks.now) cs c.verify_inversion_blocks.result)
    (c.deref.ensures.value ∙ c.in_ok-back.ensures) c.verify_inversion_blocks.ensures.verdict

pub returns-clause-right : goal.returns-clause-right
returns-clause-right g c =
    step-right g.D.Digest.digest_of g.row.B c.args.before c.args.after (map arc_value c.args.blocks.now) c.args.changes.now
    g.met.D.Digest.digest_len (keyed-done c.args.changes.now c.requires.changes) c.verify_inversion_blocks.result
    (subst (λ cs. IsVerdict g.D.Digest.digest_of g.row.B c.args.after c.args.before (map arc_value c.args.blocks.now) cs c.verify_inversion_blocks.result)
    (c.deref.ensures.value ∙ c.in_ok-back.ensures) c.verify_inversion_blocks.ensures.verdict)

pub returns-clause-comes : goal.returns-clause-comes
returns-clause-comes g c =
    step-whole g.D.Digest.digest_of g.row.B c.args.before c.args.after (map arc_value c.args.blocks.now) c.args.changes.now c.verify_inversion_blocks.result
    (subst (λ cs. IsWhole g.D.Digest.digest_of g.row.B c.args.after c.args.before (map arc_value c.args.blocks.now) cs c.verify_inversion_blocks.result)
    (c.deref.ensures.value ∙ c.in_ok-back.ensures) c.verify_inversion_blocks.ensures.comes)

pub returns-clause-tree : goal.returns-clause-tree
returns-clause-tree g c =
    subst (λ cs. IsOfTree g.D.Digest.digest_of g.row.B c.args.after c.args.before (map arc_value c.args.blocks.now) cs c.verify_inversion_blocks.result)
    (c.deref.ensures.value ∙ c.in_ok-back.ensures) c.verify_inversion_blocks.ensures.tree

pub verify_inversion_blocks-requires-clause-changes : goal.verify_inversion_blocks-requires-clause-changes
verify_inversion_blocks-requires-clause-changes g c =
    subst (λ cs. are_changes (undone cs) ≡ true) (sym (c.deref.ensures.value ∙ c.in_ok-back.ensures))
    (taken-turned c.args.changes.now ∙ c.requires.changes)

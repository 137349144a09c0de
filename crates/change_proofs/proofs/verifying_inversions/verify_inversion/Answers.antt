use Rattle.std.proofs.Common.{map, subst, ap, ◌∙◌}
use Rattle.std.specs.Arc.{arc_value}
use Rattle.change_proofs.specs.Verdicts.{IsVerdict, IsRight, IsWhole, IsOfTree}
use Rattle.change_proofs.proofs.verifying_inversions.verify_inversion.Goals as goal

pub returns-clause-verdict : goal.returns-clause-verdict
returns-clause-verdict g c =
    subst (λ given. IsVerdict g.D.Digest.digest_of g.row.B c.args.before c.args.after given c.args.changes.now
    c.verify_inversion_blocks.result) (ap (map arc_value) c.deref.ensures.value ∙ c.in_ok-own.ensures) c.verify_inversion_blocks.ensures.verdict

pub returns-clause-right : goal.returns-clause-right
returns-clause-right g c =
    subst (λ given. IsRight g.D.Digest.digest_of g.row.B c.args.before c.args.after given c.args.changes.now
    c.verify_inversion_blocks.result) (ap (map arc_value) c.deref.ensures.value ∙ c.in_ok-own.ensures) c.verify_inversion_blocks.ensures.right

pub returns-clause-comes : goal.returns-clause-comes
returns-clause-comes g c =
    subst (λ given. IsWhole g.D.Digest.digest_of g.row.B c.args.before c.args.after given c.args.changes.now
    c.verify_inversion_blocks.result) (ap (map arc_value) c.deref.ensures.value ∙ c.in_ok-own.ensures) c.verify_inversion_blocks.ensures.comes

pub returns-clause-tree : goal.returns-clause-tree
returns-clause-tree g c =
    subst (λ given. IsOfTree g.D.Digest.digest_of g.row.B c.args.before c.args.after given c.args.changes.now
    c.verify_inversion_blocks.result) (ap (map arc_value) c.deref.ensures.value ∙ c.in_ok-own.ensures) c.verify_inversion_blocks.ensures.tree

use Rattle.std.proofs.Common.{List, ℕ, map, sym, subst}
use Rattle.std.specs.Borrow.{Bor}
use Rattle.tizulgech.specs.Changing.{IsAnswer}
use Rattle.tizulgech.specs.declared.verdicts.Direction.{Direction}
use Rattle.tizulgech.proofs.verdicts.verdict.Goals as goal

pub returns-in-Forward : goal.returns-in-Forward
returns-in-Forward c =
    let said = c.verify_change.ensures in
    subst (λ (d : Direction). IsAnswer d (map (λ (node : Bor (List ℕ)). node.now) c.args.nodes.now) c.args.before c.args.after
    c.args.changes.now c.verify_change.result)
    (sym c.in-Forward.is) (said.verdict, said.right, said.comes, said.tree)

pub returns-in-Back : goal.returns-in-Back
returns-in-Back c =
    let said = c.verify_inversion.ensures in
    subst (λ (d : Direction). IsAnswer d (map (λ (node : Bor (List ℕ)). node.now) c.args.nodes.now) c.args.before c.args.after
    c.args.changes.now c.verify_inversion.result)
    (sym c.in-Back.is) (said.verdict, said.right, said.comes, said.tree)

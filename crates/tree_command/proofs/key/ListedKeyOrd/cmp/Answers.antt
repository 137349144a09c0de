use Rattle.std.proofs.Common.{ℕ, List, ap, ◌∙◌}
use Rattle.std.specs.Cmp.Lexicographic.{slice_cmp}
use Rattle.std.specs.Ordering.{nat_cmp}
use Rattle.tree_command.proofs.Fronts.{front-decides}
use Rattle.tree_command.proofs.key.ListedKeyOrd.cmp.Goals as goal

pub returns-in_default : goal.returns-in_default
returns-in_default c =
    let x = c.self.inside.bytes.now in
    let y = c.other.inside.bytes.now in
    c.cmp.ensures
    ∙ front-decides _ _ x y c.self.invariant c.other.invariant (λ e. c.in_default.not-Equal (c.cmp.ensures ∙ e))
    ∙ ap (λ (l : List ℕ). slice_cmp nat_cmp l y) c.self.view_is
    ∙ ap (slice_cmp nat_cmp c.args.self.now) c.other.view_is

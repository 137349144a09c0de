use Rattle.std.proofs.Common.{ℕ, List, nat_eq, sym, ap, ◌∙◌}
use Rattle.std.specs.Cmp.Lexicographic.{pointwise}
use Rattle.tree_command.proofs.Fronts.{front-differs}
use Rattle.tree_command.proofs.key.ListedKeyPartialEq.eq.Goals as goal

pub returns-else-eq : goal.returns-else-eq
returns-else-eq c =
    let x = c.self.inside.bytes.now in
    let y = c.other.inside.bytes.now in
    let differ = sym c.eq.ensures ∙ c.if-eq.false in
    c.if-eq.false
    ∙ sym (front-differs _ _ x y c.self.invariant c.other.invariant differ)
    ∙ ap (λ (l : List ℕ). pointwise nat_eq l y) c.self.view_is
    ∙ ap (pointwise nat_eq c.args.self.now) c.other.view_is

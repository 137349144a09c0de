use Rattle.std.proofs.Common.{ℕ, get_or, sym, ap, ◌∙◌}
use Rattle.std.specs.Ordering.{nat_cmp}
use Rattle.node.proofs.Comparing.{parts}
use Rattle.node.proofs.search.compare.Goals as goal

pub returns-then-same-other-clause-order : goal.returns-then-same-other-clause-order
returns-then-same-other-clause-order c =
    let is = c.common_len-same.ensures.value in
    sym ((parts c.args.one.now c.args.other.now).both_end (sym is ∙ c.if-same-one.true) (sym is ∙ c.if-same-other.true))

pub returns-else-same-other-clause-order : goal.returns-else-same-other-clause-order
returns-else-same-other-clause-order c =
    let is = c.common_len-same.ensures.value in
    sym ((parts c.args.one.now c.args.other.now).first_ends (sym is ∙ c.if-same-one.true) (λ e. c.if-same-other.false (is ∙ e)))

pub returns-then-same-other-2-clause-order : goal.returns-then-same-other-2-clause-order
returns-then-same-other-2-clause-order c =
    let is = c.common_len-same.ensures.value in
    sym ((parts c.args.one.now c.args.other.now).second_ends (λ e. c.if-same-one.false (is ∙ e)) (sym is ∙ c.if-same-other-2.true))

pub returns-else-same-other-2-clause-order : goal.returns-else-same-other-2-clause-order
returns-else-same-other-2-clause-order c =
    let is = c.common_len-same.ensures.value in
    let one = c.args.one.now in
    let other = c.args.other.now in
    c.cmp.ensures ∙ ap (λ (n : ℕ). nat_cmp (get_or one n 0) (get_or other n 0)) is
    ∙ sym ((parts one other).neither_ends (λ e. c.if-same-one.false (is ∙ e)) (λ e. c.if-same-other-2.false (is ∙ e)))

use Rattle.std.proofs.Common.{ap, ◌∙◌}
use Rattle.std.specs.Cmp.Lexicographic.{slice_cmp}
use Rattle.std.specs.Ordering.{nat_cmp, is_lt}
use Rattle.lookups.proofs.Walking.{next-at}
use Rattle.lookups.proofs.walks.is_next.Goals as goal

pub returns-in-Some : goal.returns-in-Some
returns-in-Some g c =
    next-at c.args.key.now c.args.pairs.now c.in-Some.field-0.now c.is_lt.result c.in-Some.ensures.value
    (c.is_lt.ensures ∙ ap is_lt (c.cmp.ensures ∙ ap (λ k. slice_cmp nat_cmp k c.args.key.now) c.as_slice.ensures.value))

use Rattle.std.proofs.Common.{◌∙◌, ap, Some}
use Rattle.kept.specs.Counts.{bytes_at, count_at, Keeping}
use Rattle.kept.proofs.Counting.{lent_counted, uses_at}
use Rattle.kept.proofs.kept.Kept.lender.Goals as goal

pub returns-clause-blocks : goal.returns-clause-blocks
returns-clause-blocks g c q bytes h =
    lent_counted c.self.inside.blocks q bytes (ap (λ (k : Keeping). bytes_at k.uses q) c.self.view_is ∙ h)

pub returns-clause-uses : goal.returns-clause-uses
returns-clause-uses g c q u h =
    uses_at c.self.inside.blocks q (Some u) h
    ∙ ap (λ (k : Keeping). count_at k.uses q) c.self.view_is
    ∙ ap (count_at c.args.self.now.uses) (c.self.invariant.entries q u h).named

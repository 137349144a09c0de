use Rattle.std.proofs.Common.{◌∙◌, sym, ap, Some, None}
use Rattle.kept.specs.Counts.{Keeping, count_at}
use Rattle.kept.proofs.Counting.{uses_at}
use Rattle.kept.proofs.kept.Kept.uses.Goals as goal

pub returns-in-Some : goal.returns-in-Some
returns-in-Some g c =
    uses_at c.self.inside.blocks c.args.cid.now (Some c.in-Some.held.now) (sym c.in-Some.ensures)
    ∙ ap (λ (k : Keeping). count_at k.uses c.args.cid.now) c.self.view_is

pub returns-in-None : goal.returns-in-None
returns-in-None g c =
    uses_at c.self.inside.blocks c.args.cid.now None (sym c.in-None.ensures)
    ∙ ap (λ (k : Keeping). count_at k.uses c.args.cid.now) c.self.view_is

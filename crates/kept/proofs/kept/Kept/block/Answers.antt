use Rattle.std.proofs.Common.{◌∙◌, sym, ap, Some}
use Rattle.std.specs.Arc.{arc_value}
use Rattle.kept.specs.Counts.{Keeping, bytes_at}
use Rattle.kept.proofs.Counting.{none_at, used_at}
use Rattle.kept.proofs.kept.Kept.block.Goals as goal

pub returns-in_default : goal.returns-in_default
returns-in_default g c =
    none_at c.self.inside.blocks c.args.cid.now (sym c.in_default.ensures)
    ∙ ap (λ (k : Keeping). bytes_at k.uses c.args.cid.now) c.self.view_is

pub returns : goal.returns
returns g c =
    ap (λ x. Some (arc_value x)) c.block.ensures
    ∙ used_at c.self.inside.blocks c.args.cid.now c.in-Some.held.now (sym c.in-Some.ensures)
    (c.self.invariant.entries c.args.cid.now c.in-Some.held.now (sym c.in-Some.ensures)).used
    ∙ ap (λ (k : Keeping). bytes_at k.uses c.args.cid.now) c.self.view_is

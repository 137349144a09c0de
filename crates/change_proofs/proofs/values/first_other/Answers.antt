use Rattle.std.proofs.Common.{◌∙◌}
use Rattle.change_proofs.proofs.Telling.{none-below, values-end}
use Rattle.change_proofs.proofs.values.first_other.Goals as goal

pub returns : goal.returns
returns c =
    c.loop-left.invariant.told
    ∙ values-end c.loop-left.place c.loop-left.rest.now c.loop-left.left.now
    (none-below c.loop-left.left.now c.in_default.len_below)

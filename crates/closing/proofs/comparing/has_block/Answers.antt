use Rattle.std.proofs.Common.{◌∙◌}
use Rattle.std.specs.Arc.{arc_value}
use Rattle.closing.proofs.Having.{has_found}
use Rattle.closing.proofs.comparing.has_block.Goals as goal

pub returns : goal.returns
returns g c =
    c.is_some.ensures ∙ has_found g.D.Digest.digest_of g.row.B c.args.core.now c.args.cid.now (λ b. arc_value b.now) c.block.result c.block.ensures.value

use Rattle.std.proofs.Common.{◌∙◌}
use Rattle.sha256_lanes.proofs.BlockLemmas.{whole_code}
use Rattle.sha256_lanes.proofs.blocks.padded_block.Goals as goal

pub returns-then-i-whole : goal.returns-then-i-whole
returns-then-i-whole c h = c.whole_block.ensures ∙ whole_code c.args.message.now c.args.i c.if-i-whole.true

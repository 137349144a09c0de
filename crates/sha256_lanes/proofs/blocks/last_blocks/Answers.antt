use Rattle.std.proofs.Common.{arith, sym, ◌∙◌}
use Rattle.sha256_lanes.proofs.BlockLemmas.{block_count_is, block_closed, block_marked, block_last}
use Rattle.sha256_lanes.proofs.blocks.last_blocks.Goals as goal

pub returns-then-i-whole : goal.returns-then-i-whole
returns-then-i-whole c h =
    let count = block_count_is c.args.message.now in
    c.with_length.ensures ∙ sym (block_last c.args.message.now c.args.i (omega arith) (omega arith))

pub returns-then-rest-lt56 : goal.returns-then-rest-lt56
returns-then-rest-lt56 c h =
    block_closed c.args.message.now c.marked.result _ c.args.i c.marked.ensures c.with_length-then-rest-lt56.ensures c.if-rest-lt56.true
    (omega (arith, c.requires, c.if-i-whole.false))

pub returns-else-rest-lt56 : goal.returns-else-rest-lt56
returns-else-rest-lt56 c h =
    block_marked c.args.message.now _ c.args.i c.marked-else-rest-lt56.ensures c.if-rest-lt56.false
    (omega (arith, c.requires, c.if-i-whole.false))

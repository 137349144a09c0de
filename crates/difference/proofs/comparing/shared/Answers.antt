use Rattle.std.proofs.Common.{◌≡◌, ◌∙◌, ◌<◌, length, arith, rules}
use Rattle.std.specs.Arc.{arc_value}
use Rattle.difference.proofs.Outcomes.{all-bytes, shared-more}
use Rattle.difference.proofs.comparing.shared.Goals as goal

pub loop-node-preserved : goal.loop-node-preserved
loop-node-preserved g c =
    let blocks = c.args.blocks.now in
    let short : c.loop-node.node-index < length blocks = omega arith in
    let same : arc_value c.in_ok-try_clone.field-0 ≡ arc_value c.node-item.result = search rules in
    shared-more blocks c.loop-node.node-index c.node-item.result short c.node-item.is c.block.ensures.node.spelled
    c.loop-node.all.items c.push.new.self.items c.in_ok-try_clone.field-0 c.loop-node.invariant c.in_ok-push.ensures.items same

pub returns : goal.returns
returns g c =
    let all : c.loop-node.node-index ≡ length c.args.blocks.now = omega arith in
    c.loop-node.invariant ∙ all-bytes c.args.blocks.now c.loop-node.node-index all

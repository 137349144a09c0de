use Rattle.std.proofs.Common.{◌≡◌, ◌∙◌, ◌<◌, length, arith, rules}
use Rattle.std.specs.Arc.{arc_value}
use Rattle.spec.specs.Cid.{cid}
use Rattle.difference.proofs.Outcomes.{all-cids, cids-more}
use Rattle.difference.proofs.comparing.cids.Goals as goal

pub loop-node-preserved : goal.loop-node-preserved
loop-node-preserved g c =
    let blocks = c.args.blocks.now in
    let digest = g.D.Digest.digest_of in
    let short : c.loop-node.node-index < length blocks = omega arith in
    let is : c.cid.result ≡ cid digest (arc_value c.node-item.result) = search rules in
    cids-more blocks c.loop-node.node-index c.node-item.result short c.node-item.is c.block.ensures.node.spelled digest
    c.loop-node.cids.items c.push.new.self.items c.cid.result c.loop-node.invariant c.in_ok-push.ensures.items is

pub returns : goal.returns
returns g c =
    let all : c.loop-node.node-index ≡ length c.args.blocks.now = omega arith in
    c.loop-node.invariant ∙ all-cids g.D.Digest.digest_of c.args.blocks.now c.loop-node.node-index all

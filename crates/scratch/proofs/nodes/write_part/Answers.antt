use Rattle.std.proofs.Common.{length, sym, ap, ◌∙◌}
use Rattle.spec.specs.Layer.{layer as layer_of}
use Rattle.scratch.specs.Cut.{nodes_after}
use Rattle.scratch.proofs.Cuts.{few-later, part-length}
use Rattle.scratch.proofs.nodes.write_part.Goals as goal

pub overflow_sub-result : goal.overflow_sub-result
overflow_sub-result g c =
    few-later (layer_of g.D.Digest.digest_of g.row.B) c.args.layer c.args.unread.now.first c.args.unread.now.rows c.node_count-before.result c.later_count.result c.node_count-before.ensures.count
    (c.later_count.ensures ∙ ap (λ rs. length (nodes_after rs)) c.in_ok-node.ensures.unread)

pub returns-clause-count : goal.returns-clause-count
returns-clause-count g c =
    part-length (layer_of g.D.Digest.digest_of g.row.B) c.args.layer g.D.Digest.digest_of c.args.unread.now.first c.args.unread.now.rows c.node_count-before.result c.later_count.result
    (sym c.is_node_next.ensures ∙ c.if-not-is_node_next.false)
    c.node_count-before.ensures.count (c.later_count.ensures ∙ ap (λ rs. length (nodes_after rs)) c.in_ok-node.ensures.unread)

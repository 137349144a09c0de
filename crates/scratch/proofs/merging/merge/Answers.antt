use Rattle.std.specs.Arc.{arc_value}
use Rattle.scratch.proofs.Moved.{first_part, next_part}
use Rattle.scratch.proofs.merging.merge.Goals as goal

pub loop-row-init : goal.loop-row-init
loop-row-init g c =
    first_part arc_value (λ r. r.nodes_after) c.args.first c.args.rows.now c.in_ok-nodes.nodes.items c.push_part.new.nodes.items c.args.tops.items c.into_iter-tops.result.rest.items c.push_part.new.tops.rest.items
    c.args.under.items c.into_iter-under.result.rest.items c.push_part.new.under.rest.items c.in_ok-nodes.ensures.items c.into_iter-tops.ensures.rest c.into_iter-under.ensures.rest
    c.in_ok-push_part.ensures.nodes c.in_ok-push_part.ensures.tops c.in_ok-push_part.ensures.under

pub loop-row-preserved : goal.loop-row-preserved
loop-row-preserved g c =
    next_part arc_value (λ r. r.nodes_after) c.args.rows.now c.loop-row.row-index c.row-item.result c.loop-row.nodes.items c.push_part-in-loop-row.new.nodes.items c.loop-row.tops.rest.items c.push_part-in-loop-row.new.tops.rest.items
    c.loop-row.under.rest.items c.push_part-in-loop-row.new.under.rest.items _ c.loop-row-test.true c.row-item.is c.loop-row.invariant
    c.in_ok-push_part-2.ensures.nodes c.in_ok-push_part-2.ensures.tops c.in_ok-push_part-2.ensures.under

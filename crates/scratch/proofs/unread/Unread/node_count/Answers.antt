use Rattle.std.specs.Arc.{arc_value}
use Rattle.scratch.proofs.Kept.{count-kept}
use Rattle.scratch.proofs.unread.Unread.node_count.Goals as goal

pub returns-clause-count : goal.returns-clause-count
returns-clause-count g c = count-kept arc_value c.self.inside.first c.self.inside.rows.now c.self.inside.nodes.now c.args.self.now c.self.view_is c.self.invariant.counted

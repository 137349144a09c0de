use Rattle.std.specs.Arc.{arc_value}
use Rattle.scratch.proofs.Kept.{later-kept}
use Rattle.scratch.proofs.unread.Unread.later_count.Goals as goal

pub returns : goal.returns
returns g c = later-kept arc_value c.self.inside.first c.self.inside.rows.now c.self.inside.nodes.now c.args.self.now c.self.view_is c.self.invariant.counted

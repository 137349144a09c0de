use Rattle.std.specs.Arc.{arc_value}
use Rattle.scratch.proofs.Kept.{next-kept}
use Rattle.scratch.proofs.unread.Unread.next.Goals as goal

pub returns-clause-some : goal.returns-clause-some
returns-clause-some g c =
    next-kept arc_value c.self.inside.first c.self.inside.rows.now c.self.inside.nodes.now c.args.self.now c.in_ok-row.field-0.now c.self.view_is c.in_ok-row.ensures.value

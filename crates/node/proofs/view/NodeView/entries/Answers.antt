use Rattle.std.proofs.Common.{[], ap, ◌∙◌}
use Rattle.node.specs.Contents.{Contents}
use Rattle.node.specs.Rows.{rows}
use Rattle.node.proofs.RowLaws.{rows_shown-entries}
use Rattle.node.proofs.view.NodeView.entries.Goals as goal

pub invariant_of-result : goal.invariant_of-result
invariant_of-result c = (rows_shown-entries c.self.inside.count c.self.inside.first.now c.self.invariant.all).0

pub returns-clause-rows : goal.returns-clause-rows
returns-clause-rows c =
    (rows_shown-entries c.self.inside.count c.self.inside.first.now c.self.invariant.all).1 ∙ ap (λ (w : Contents). rows [] w.entries) c.self.view_is

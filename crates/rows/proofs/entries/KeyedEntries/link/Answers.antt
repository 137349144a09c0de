use Rattle.std.proofs.Common.{sym, ap, ◌∙◌}
use Rattle.spec.specs.NodeFormat.{first_link}
use Rattle.node.specs.Gaps.{rows_behind}
use Rattle.node.specs.Search.{gap_at}
use Rattle.rows.specs.Entries.{Reading}
use Rattle.rows.proofs.NodeReading.{first-shape_of_rows}
use Rattle.rows.proofs.entries.KeyedEntries.link.Goals as goal

pub returns : goal.returns
returns g c =
    let r = c.self.inside in
    c.link.ensures
    ∙ sym (first-shape_of_rows r.key (gap_at r.gap.passed r.gap.node.left r.gap.node.entries) (rows_behind r.gap.passed r.gap.node))
    ∙ ap (λ (x : Reading). first_link x.rest) c.self.view_is

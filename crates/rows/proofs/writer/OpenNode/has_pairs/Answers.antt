use Rattle.std.proofs.Common.{◌∙◌, ap}
use Rattle.rows.specs.Written.{has_rows}
use Rattle.rows.proofs.Runs.{some-rows}
use Rattle.rows.proofs.writer.OpenNode.has_pairs.Goals as goal

pub returns : goal.returns
returns g c =
    let n = c.self.inside.written in some-rows n.left n.entries c.self.invariant.some ∙ ap has_rows c.self.view_is

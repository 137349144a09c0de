use Rattle.std.proofs.Common.{[], ap, sym, ◌∙◌}
use Rattle.rows.specs.Entries.{key_behind}
use Rattle.rows.proofs.Runs.{key-linked}
use Rattle.rows.proofs.writer.OpenNode.ends_with.Goals as goal

pub returns : goal.returns
returns g c same =
    let n = c.self.inside in
    sym (ap (key_behind []) c.self.view_is) ∙ key-linked [] n.written.left n.written.entries ∙ sym c.last_key.ensures
    ∙ c.is_same_key.ensures same

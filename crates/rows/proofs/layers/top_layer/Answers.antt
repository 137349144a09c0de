use Rattle.std.proofs.Common.{sym, ◌∙◌}
use Rattle.spec.specs.Layer.{layer}
use Rattle.node.specs.Views.{row_of}
use Rattle.rows.proofs.FirstRow.{top-some, top-none}
use Rattle.rows.proofs.layers.top_layer.Goals as goal

pub returns-in-Some : goal.returns-in-Some
returns-in-Some g c =
    let n = c.args.node.now in
    c.layer.ensures
    ∙ top-some (layer g.D.Digest.digest_of g.row.B) n.left n.entries (row_of c.in-Some.entry) c.next.new.self
    (sym c.entries.ensures.rows ∙ c.in-Some.ensures.steps)

pub returns-in-None : goal.returns-in-None
returns-in-None g c =
    let n = c.args.node.now in
    top-none (layer g.D.Digest.digest_of g.row.B) n.left n.entries (sym c.entries.ensures.rows ∙ c.in-None.ensures.steps.0)

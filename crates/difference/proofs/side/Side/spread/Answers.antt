use Rattle.std.proofs.Common.{sym, ap, ◌∙◌, ◌++◌, ◌∷◌, []}
use Rattle.std.specs.Arc.{arc_value}
use Rattle.difference.specs.Sides.{rows_of}
use Rattle.batch_laws.specs.Links.{rows_in_shape}
use Rattle.rows.specs.Entries.{shape_of}
use Rattle.difference.proofs.Opens.{read-is-node, spread-some}
use Rattle.difference.proofs.side.Side.spread.Goals as goal

pub of-requires : goal.of-requires
of-requires g c =
    read-is-node (arc_value c.in_ok-block.block.now) c.in-Some-view_of.view c.in-Some-view_of.ensures.contents
    c.in-Some-view_of.ensures.lawful

pub returns-clause-spread : goal.returns-clause-spread
returns-clause-spread g c =
    let b = c.in_ok-block.block.now in
    let old = c.args.self.now in
    spread-some (g.S.Source.gives c.args.src.now) c.in-Some.cid b c.in-Some-view_of.view (sym c.in_ok-block.ensures.found)
    c.in-Some-view_of.ensures.contents c.args.link c.in_ok-take.field-0 (rows_of old.line.rows.items)
    (rows_of c.take.new.self.line.rows.items) old.read.items c.take.new.self.read.items c.in-Some.is
    (c.in_ok-take.ensures.read ∙ c.in_ok-push.ensures.items
    ∙ (λ i. c.in_ok-block.ensures.read i ++ (c.of.ensures i ∷ [])))
    (c.in_ok-take.ensures.rows
    ∙ ap (λ line. rows_of line.rows.items ++ rows_in_shape (shape_of c.in-Some-view_of.view)) c.in_ok-block.ensures.line)
    c.in_ok-take.ensures.last

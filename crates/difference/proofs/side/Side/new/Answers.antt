use Rattle.std.proofs.Common.{◌≡◌, ◌+◌, suc, ap, ◌∙◌, arith}
use Rattle.std.specs.Arc.{arc_value}
use Rattle.rows.specs.Entries.{shape_of}
use Rattle.difference.specs.Sides.{shapes_in}
use Rattle.difference.proofs.Opens.{begun-first, node-shown, read-is-node}
use Rattle.difference.proofs.side.Side.new.Goals as goal

pub of-requires-2 : goal.of-requires-2
of-requires-2 g c =
    read-is-node (arc_value c.in-Some.block.now) c.in-Some-view_of.view c.in-Some-view_of.ensures.contents
    c.in-Some-view_of.ensures.lawful

pub returns-clause-start : goal.returns-clause-start
returns-clause-start g c =
    let view = c.in-Some-view_of.view in
    let s = shape_of view in
    let above : c.top_layer.result + 1 ≡ suc c.top_layer.result = omega arith in (
      s,
      (
        node-shown (g.S.Source.gives c.args.src.now) c.args.root c.in-Some.block.now view c.in-Some.ensures.found
            c.in-Some-view_of.ensures.contents,
        λ i. record {
          left = (ap (λ n. n + 1) c.from.ensures ∙ above ∙ ap suc c.top_layer.ensures) i;
          line = c.of.ensures i;
          read = (ap shapes_in c.new.ensures.items) i;
        },
      ),
    )

pub returns-clause-begun : goal.returns-clause-begun
returns-clause-begun g c =
    begun-first (g.S.Source.gives c.args.src.now) c.args.root c.in-Some.block.now c.of-2.result c.in-Some.ensures.found
    c.of-2.ensures c.of.result c.of.ensures c.new.result.items c.new.ensures.items

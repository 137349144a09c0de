use Rattle.std.proofs.Common.{sym, ap, ◌∙◌, option_map}
use Rattle.std.specs.Arc.{arc_value}
use Rattle.spec.specs.NodeFormat.{read_node, shape_bytes}
use Rattle.node.specs.Views.{place_of}
use Rattle.edit_laws.specs.Sources.{gap, shape_of_reading}
use Rattle.lookups.proofs.NodeLaws.{read-some, nothing-shown}
use Rattle.std.specs.declared.option.Option.TheVariants.{Some}
use Rattle.export.proofs.Paths.{link-found}
use Rattle.export.proofs.proving.link_in.Goals as goal

pub returns-in-Some-clause-link : goal.returns-in-Some-clause-link
returns-in-Some-clause-link g c =
    let bytes = arc_value c.args.block.now in
    link-found c.args.key.now bytes c.in-Some.node.left c.in-Some.node.entries (place_of c.args.key.now c.find.result) c.link_at.result
    (read-some (read_node bytes) c.in-Some.node c.in-Some.ensures.contents) c.find.ensures.place (c.link_at.ensures c.args.key.now)

pub returns-in-Some-clause-bytes : goal.returns-in-Some-clause-bytes
returns-in-Some-clause-bytes g c =
    let bytes = arc_value c.args.block.now in
    ap (λ r. option_map shape_bytes (shape_of_reading r)) (read-some (read_node bytes) c.in-Some.node c.in-Some.ensures.contents)
    ∙ ap Some (sym c.in-Some.ensures.lawful.spelled)

pub returns-in-None-clause-link : goal.returns-in-None-clause-link
returns-in-None-clause-link g c =
    sym (ap (option_map (gap c.args.key.now)) (nothing-shown (read_node (arc_value c.args.block.now)) c.in-None.ensures.contents))

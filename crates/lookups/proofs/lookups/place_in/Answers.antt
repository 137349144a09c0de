use Rattle.std.proofs.Common.{sym, ap, ◌∙◌, option_map}
use Rattle.std.specs.Arc.{arc_value}
use Rattle.spec.specs.NodeFormat.{read_node}
use Rattle.node.specs.Views.{place_of}
use Rattle.block.specs.Nodes.{contents_of}
use Rattle.lookups.specs.Steps.{place_found, place_of_key}
use Rattle.lookups.proofs.NodeLaws.{read-some, nothing-shown}
use Rattle.lookups.proofs.Stepping.{place-step}
use Rattle.lookups.proofs.lookups.place_in.Goals as goal

pub returns-in_err-node : goal.returns-in_err-node
returns-in_err-node g c =
    let bytes = arc_value c.args.block.now in
    let none = c.in_err-node.ensures ∙ ap (λ b. contents_of (read_node b)) c.deref.ensures in
    ap (option_map (place_found c.args.key.now)) c.from_residual.ensures
    ∙ sym (ap (option_map (place_of_key c.args.key.now)) (nothing-shown (read_node bytes) none))

pub returns : goal.returns
returns g c =
    let bytes = arc_value c.args.block.now in
    let view = c.in_ok-node.field-0 in
    place-step c.args.key.now bytes view.left view.entries (place_of c.args.key.now c.find.result)
    (read-some (read_node bytes) view (c.in_ok-node.ensures ∙ ap (λ b. contents_of (read_node b)) c.deref.ensures)) c.find.ensures.place

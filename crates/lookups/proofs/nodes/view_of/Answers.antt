use Rattle.std.proofs.Common.{◌≡◌, ◌<◌, ◌^◌, length, ℕ, List, subst, ap, ◌∙◌}
use Rattle.std.specs.Arc.{arc_value}
use Rattle.spec.specs.Reading.{IsBytes}
use Rattle.spec.specs.NodeFormat.{read_node}
use Rattle.block.specs.Nodes.{contents_of}
use Rattle.lookups.proofs.NodeLaws.{shown-node}
use Rattle.lookups.proofs.nodes.view_of.Goals as goal

pub returns-clause-lawful : goal.returns-clause-lawful
returns-clause-lawful g c =
    let same : c.bytes.result.now ≡ arc_value c.args.block.now = c.bytes.ensures ∙ c.deref.ensures in
    shown-node (arc_value c.args.block.now) c.node.result (subst IsBytes same c.are_bytes.ensures.bytes)
    (subst (λ (bs : List ℕ). length bs < 2 ^ 64) same c.are_bytes.ensures.short)
    (c.node.ensures ∙ ap (λ b. contents_of (read_node b)) c.deref-2.ensures)

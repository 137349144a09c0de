use Rattle.std.proofs.Common.{◌≡◌, nat_le, sym, ap, ◌∙◌}
use Rattle.spec.specs.DagCbor.{count_values}
use Rattle.dagcbor.specs.View.{view_items}
use Rattle.dagcbor.proofs.ItemByItem.{count_values-items}
use Rattle.event_format.proofs.said.are_few.Goals as goal

pub returns : goal.returns
returns g c =
    let items = c.args.items.now.items in
    let count : c.len.result ≡ count_values (view_items items) =
    c.len.ensures ∙ c.args.items.now.ok.0 ∙ sym (count_values-items items) in
    ap (λ n. nat_le n 200) count

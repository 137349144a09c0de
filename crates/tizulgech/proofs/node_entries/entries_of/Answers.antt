use Rattle.std.proofs.Common.{◌∙◌, ap}
use Rattle.rows.specs.Entries.{Reading}
use Rattle.tizulgech.proofs.Listing.{entries_begin}
use Rattle.tizulgech.proofs.node_entries.entries_of.Goals as goal

pub loop-value-init : goal.loop-value-init
loop-value-init c = entries_begin c.args.view.now.left c.to_cid.result c.args.view.now.entries c.push_value.new.out.items c.new-bytes.result.items
    c.of-rows.result.rest c.in_ok-push_value.ensures c.new-bytes.ensures.items (c.to_cid.ensures ∙ c.link.ensures)
    (ap (λ (r : Reading). r.rest) c.of-rows.ensures)

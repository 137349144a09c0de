use Rattle.std.proofs.Common.{◌≡◌, drop}
use Rattle.dagcbor.specs.View.{view_items}
use Rattle.event_laws.specs.Fields.{are_links}
use Rattle.event_format.proofs.kinds.are_links.Given as goal

abbrev pub invariant-loop-item : goal.invariant-loop-item
invariant-loop-item g l = are_links (view_items l.items.items) ≡ are_links (view_items (drop l.item-index l.items.items))

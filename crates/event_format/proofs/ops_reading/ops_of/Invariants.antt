use Rattle.std.proofs.Common.{◌≡◌, length}
use Rattle.event_format.proofs.OpsRead.{Reads}
use Rattle.event_format.proofs.ops_reading.ops_of.Given as goal

-- with the operations so far those to come are all
abbrev pub invariant-loop-item : goal.invariant-loop-item
invariant-loop-item g l = record {
  count : length l.ops.items ≡ l.item-index;
  reads : Reads l.items.items l.item-index l.ops.items;
}

use Rattle.std.proofs.Common.{◌≡◌, ◌≤◌, length}
use Rattle.export.specs.Walks.{next_row, turned}
use Rattle.export.proofs.walk.next_entry.Given as goal

abbrev pub invariant-loop-entries : goal.invariant-loop-entries
invariant-loop-entries g l = record {
  next : next_row (turned l.initial.stack.items) ≡ next_row (turned l.stack.items);
  shorter : length l.stack.items ≤ length l.initial.stack.items;
}

abbrev pub decreases-loop-entries : goal.decreases-loop-entries
decreases-loop-entries g l = length l.stack.items

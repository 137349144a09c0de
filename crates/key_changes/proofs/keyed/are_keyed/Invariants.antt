use Rattle.std.proofs.Common.{◌≡◌, ◌≤◌, true, length, map, drop}
use Rattle.key_changes.specs.Keyed.{are_changes}
use Rattle.key_changes.proofs.keyed.are_keyed.Given as goal

abbrev pub invariant-loop-left : goal.invariant-loop-left
invariant-loop-left g l = record {
  within : l.left ≤ length l.changes;
  so_far : are_changes (map g.C.Keyed.change (drop l.left l.changes)) ≡ true;
}

abbrev pub decreases-loop-left : goal.decreases-loop-left
decreases-loop-left g l = l.left

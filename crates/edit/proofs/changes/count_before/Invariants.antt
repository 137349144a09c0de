use Rattle.std.proofs.Common.{◌≤◌, ◌-◌, length}
use Rattle.edit.specs.Places.{IsPlace}
use Rattle.edit.proofs.changes.count_before.Given as goal

abbrev pub invariant-loop-count : goal.invariant-loop-count
invariant-loop-count g l = record {
  within : l.count ≤ length l.changes;
  place : IsPlace l.key l.changes l.count;
}

abbrev pub decreases-loop-count : goal.decreases-loop-count
decreases-loop-count g l = length l.changes - l.count

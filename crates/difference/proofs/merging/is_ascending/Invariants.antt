use Rattle.std.proofs.Common.{◌≤◌, length, drop}
use Rattle.edit_laws.specs.Pairs.{Ascending}
use Rattle.difference.specs.Merged.{pairs_in}
use Rattle.difference.proofs.merging.is_ascending.Given as goal

abbrev pub invariant-loop-left : goal.invariant-loop-left
invariant-loop-left g l = record {
  within : l.left ≤ length l.rows;
  ascends : Ascending (pairs_in (drop l.left l.rows));
}

abbrev pub decreases-loop-left : goal.decreases-loop-left
decreases-loop-left g l = l.left

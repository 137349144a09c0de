use Rattle.std.proofs.Common.{◌≡◌, ◌<◌, ◌≤◌, ◌^◌, drop, length}
use Rattle.batch_laws.specs.Counts.{most_reads}
use Rattle.edit.proofs.changes.most_reads_below.Given as goal

abbrev pub invariant-loop-left : goal.invariant-loop-left
invariant-loop-left g l = record {
  most : l.most ≡ most_reads l.layer (drop l.left l.changes);
  within : l.left ≤ length l.changes;
  short : length l.changes < 2 ^ 64;
}

abbrev pub decreases-loop-left : goal.decreases-loop-left
decreases-loop-left g l = l.left

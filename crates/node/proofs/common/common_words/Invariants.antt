use Rattle.std.proofs.Common.{length, drop, ◌-◌, ◌≡◌, ◌≤◌, ◌+◌}
use Rattle.spec.specs.NodeFormat.{common}
use Rattle.node.proofs.common.common_words.Given as goal

abbrev pub invariant-loop-same : goal.invariant-loop-same
invariant-loop-same l = record {
  in_one : l.same ≤ length l.one;
  in_other : l.same ≤ length l.other;
  value : common l.one l.other ≡ l.same + common (drop l.same l.one) (drop l.same l.other);
}

abbrev pub decreases-loop-same : goal.decreases-loop-same
decreases-loop-same l = length l.one - l.same

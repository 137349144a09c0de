use Rattle.std.proofs.Common.{◌≡◌, ◌+◌, length}
use Rattle.change_laws.specs.Verdict.{are_told}
use Rattle.change_proofs.proofs.values.first_other.Given as goal

abbrev pub invariant-loop-left : goal.invariant-loop-left
invariant-loop-left l = record {
  told : are_told 0 l.values l.changes ≡ are_told l.place l.rest l.left;
  count : l.place + length l.left ≡ length l.changes;
}

abbrev pub decreases-loop-left : goal.decreases-loop-left
decreases-loop-left l = length l.left

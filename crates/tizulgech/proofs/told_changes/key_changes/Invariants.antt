use Rattle.std.proofs.Common.{◌≡◌, ◌≤◌, ◌++◌, ◌-◌, drop, length}
use Rattle.tizulgech.specs.Changing.{paired_changes}
use Rattle.tizulgech.proofs.told_changes.key_changes.Given as goal

abbrev pub invariant-loop-place : goal.invariant-loop-place
invariant-loop-place l =
    (l.place ≤ length l.befores) × (paired_changes l.befores l.afters ≡ l.changes.items ++ paired_changes (drop l.place l.befores) (drop l.place l.afters))

abbrev pub decreases-loop-place : goal.decreases-loop-place
decreases-loop-place l = length l.befores - l.place

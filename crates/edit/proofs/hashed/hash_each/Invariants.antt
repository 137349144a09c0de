use Rattle.std.proofs.Common.{◌≡◌, ◌++◌, drop, length}
use Rattle.edit.proofs.hashed.hash_each.Given as goal

abbrev pub decreases-fours : goal.decreases-fours
decreases-fours g l = length l.rest

-- those that were hashed, and the rest
abbrev pub invariant-fours : goal.invariant-fours
invariant-fours g l = l.hashed.items ++ l.rest ≡ l.changes

abbrev pub invariant-last : goal.invariant-last
invariant-last g l = l.hashed.items ++ drop l.change-index l.change-items ≡ l.changes

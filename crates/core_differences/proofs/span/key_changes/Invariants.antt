use Rattle.std.proofs.Common.{◌≡◌, take}
use Rattle.difference.specs.Merged.{changes_told}
use Rattle.core_differences.proofs.span.key_changes.Given as goal

abbrev pub invariant-loop-change : goal.invariant-loop-change
invariant-loop-change g l = l.all.items ≡ changes_told (take l.change-index l.changes)

use Rattle.std.proofs.Common.{[], ◌≡◌}
use Rattle.node.specs.Rows.{after_entries}
use Rattle.node.proofs.parts.after_entries_within.Given as goal

abbrev pub invariant-loop-left : goal.invariant-loop-left
invariant-loop-left g l = after_entries l.left l.before l.rest ≡ after_entries l.fn.count [] l.fn.bytes

abbrev pub decreases-loop-left : goal.decreases-loop-left
decreases-loop-left g l = l.left

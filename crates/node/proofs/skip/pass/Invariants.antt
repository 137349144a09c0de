use Rattle.std.proofs.Common.{◌≡◌}
use Rattle.node.specs.Runs.{after_keys}
use Rattle.node.proofs.skip.pass.Given as goal

abbrev pub invariant-loop-left : goal.invariant-loop-left
invariant-loop-left g l = after_keys l.left l.key l.rest ≡ after_keys l.fn.count l.fn.key l.fn.bytes

abbrev pub decreases-loop-left : goal.decreases-loop-left
decreases-loop-left g l = l.left

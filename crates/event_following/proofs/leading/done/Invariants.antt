use Rattle.std.proofs.Common.{◌≡◌, take}
use Rattle.step_laws.specs.Turned.{done}
use Rattle.event_following.proofs.leading.done.Given as goal

abbrev pub invariant-loop-change : goal.invariant-loop-change
invariant-loop-change g l = l.done.items ≡ done (take l.change-index l.changes)

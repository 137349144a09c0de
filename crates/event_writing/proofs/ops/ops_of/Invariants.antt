use Rattle.std.proofs.Common.{◌≡◌, take}
use Rattle.event_laws.specs.Ops.{ops_of}
use Rattle.event_writing.proofs.ops.ops_of.Given as goal

abbrev pub invariant-loop-change : goal.invariant-loop-change
invariant-loop-change g l = l.ops.items ≡ ops_of (take l.change-index l.changes)

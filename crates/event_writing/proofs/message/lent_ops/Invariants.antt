use Rattle.std.proofs.Common.{◌≡◌, take}
use Rattle.event_writing.proofs.message.lent_ops.Given as goal

abbrev pub invariant-loop-op : goal.invariant-loop-op
invariant-loop-op g l = l.again.items ≡ take l.op-index l.ops

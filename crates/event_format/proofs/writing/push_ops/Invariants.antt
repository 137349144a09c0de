use Rattle.event_format.proofs.Spelling.{Left}
use Rattle.event_format.proofs.writing.push_ops.Given as goal

-- with what was written what is left to write is all
abbrev pub invariant-loop-op : goal.invariant-loop-op
invariant-loop-op g l = Left l.ops.items l.initial.out.items l.op-index l.out.items

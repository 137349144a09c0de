use Rattle.std.proofs.Common.{◌≡◌, ◌++◌, drop}
use Rattle.buffers.specs.Answers.{values_bytes}
use Rattle.buffers.proofs.answers.push_values.Given as goal

abbrev pub invariant-loop-value : goal.invariant-loop-value
invariant-loop-value l = l.initial.out.items ++ values_bytes l.values ≡ l.out.items ++ values_bytes (drop l.value-index l.values)

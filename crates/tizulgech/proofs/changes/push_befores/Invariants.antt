use Rattle.std.proofs.Common.{◌≡◌, ◌++◌, drop}
use Rattle.tizulgech.specs.Changing.{befores_bytes}
use Rattle.tizulgech.proofs.changes.push_befores.Given as goal

abbrev pub invariant-loop-change : goal.invariant-loop-change
invariant-loop-change l = l.initial.bytes.items ++ befores_bytes l.changes ≡ l.bytes.items ++ befores_bytes (drop l.change-index l.changes)

use Rattle.std.proofs.Common.{◌≡◌, ◌++◌, drop}
use Rattle.std.specs.List.{flat_map}
use Rattle.difference.specs.Merged.{changes_told}
use Rattle.tizulgech.specs.Differing.{change_bytes}
use Rattle.tizulgech.proofs.differing.push_changes.Given as goal

abbrev pub invariant-loop-change : goal.invariant-loop-change
invariant-loop-change l = l.initial.bytes.items ++ flat_map change_bytes (changes_told l.changes) ≡ l.bytes.items ++ flat_map change_bytes (changes_told (drop l.change-index l.changes))

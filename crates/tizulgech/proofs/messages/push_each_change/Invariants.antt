use Rattle.std.proofs.Common.{◌≡◌, ◌++◌, drop}
use Rattle.std.specs.List.{flat_map}
use Rattle.tizulgech.specs.Messages.{change_spelt}
use Rattle.tizulgech.proofs.messages.push_each_change.Given as goal

abbrev pub invariant-loop-change : goal.invariant-loop-change
invariant-loop-change l = l.initial.out.items ++ flat_map change_spelt l.changes ≡ l.out.items ++ flat_map change_spelt (drop l.change-index l.changes)

use Rattle.std.proofs.Common.{◌≡◌, take}
use Rattle.change_laws.specs.Told.{undone}
use Rattle.change_proofs.proofs.undoing.undone.Given as goal

abbrev pub invariant-loop-change : goal.invariant-loop-change
invariant-loop-change g l = l.undone.items ≡ undone (take l.change-index l.changes)

use Rattle.std.proofs.Common.{◌≡◌, take}
use Rattle.step_laws.specs.Turned.{turned}
use Rattle.change_proofs.proofs.turning.turned.Given as goal

abbrev pub invariant-loop-change : goal.invariant-loop-change
invariant-loop-change g l = l.back.items ≡ turned (take l.change-index l.changes)

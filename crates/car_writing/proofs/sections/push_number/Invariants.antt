use Rattle.std.proofs.Common.{◌++◌}
use Rattle.spec.specs.Varint.{varint}
use Rattle.car_writing.proofs.Numbers.{Spells}
use Rattle.car_writing.proofs.sections.push_number.Given as goal

abbrev pub invariant-loop-left : goal.invariant-loop-left
invariant-loop-left g l = Spells l.out.items l.left (l.initial.out.items ++ varint l.number)

abbrev pub decreases-loop-left : goal.decreases-loop-left
decreases-loop-left g l = l.left

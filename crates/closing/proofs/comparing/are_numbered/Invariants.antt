use Rattle.std.proofs.Common.{take}
use Rattle.closing.specs.Tally.{NumberedFrom}
use Rattle.closing.proofs.comparing.are_numbered.Given as goal

abbrev pub invariant-loop-place : goal.invariant-loop-place
invariant-loop-place g l = NumberedFrom 0 (take l.place l.cores)

use Rattle.std.proofs.Common.{◌<◌, length}
use Rattle.repo.proofs.records.place_of.Given as goal

abbrev pub invariant-loop-place : goal.invariant-loop-place
invariant-loop-place g l = l.found < length l.writes

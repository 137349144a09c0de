use Rattle.std.proofs.Common.{◌≡◌, take}
use Rattle.batches.specs.Values.{writes_of, shared_writes}
use Rattle.repo.proofs.copies.copies_of.Given as goal

abbrev pub invariant-loop-write : goal.invariant-loop-write
invariant-loop-write g l = shared_writes l.shared.items ≡ writes_of (take l.write-index l.writes)

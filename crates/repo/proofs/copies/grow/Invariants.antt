use Rattle.std.proofs.Common.{◌≡◌, ◌≤◌, ◌+◌, ◌++◌, length}
use Rattle.std.specs.Vec.{vec_capacity, vec_len}
use Rattle.batches.specs.Values.{shared_writes}
use Rattle.repo.proofs.copies.grow.Given as goal

abbrev pub invariant-loop-write : goal.invariant-loop-write
invariant-loop-write g l =
    (vec_len l.accepted + length l.write-iterator.rest.items ≤ vec_capacity l.accepted) ×
    (shared_writes l.accepted.items ++ shared_writes l.write-iterator.rest.items ≡ shared_writes l.fn.accepted.items ++ shared_writes l.fn.copies.writes.items)

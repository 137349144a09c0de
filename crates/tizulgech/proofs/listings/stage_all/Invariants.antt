use Rattle.std.proofs.Common.{◌≡◌, ◌++◌}
use Rattle.batches.specs.Values.{writes_of}
use Rattle.tizulgech.proofs.listings.stage_all.Given as goal

abbrev pub invariant-loop-write : goal.invariant-loop-write
invariant-loop-write l =
    (l.repo.state ≡ l.initial.repo.state) ×
    (l.repo.pending ++ writes_of l.write-iterator.rest.items ≡ l.initial.repo.pending ++ writes_of l.fn.writes.items)

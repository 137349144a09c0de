use Rattle.std.proofs.Common.{◌≡◌, take}
use Rattle.batch_laws.specs.Collecting.{collected}
use Rattle.batches.specs.Values.{shared_writes}
use Rattle.repo.specs.Tested.{changes_in}
use Rattle.repo.proofs.changes.collect_all.Given as goal

abbrev pub invariant-loop-write : goal.invariant-loop-write
invariant-loop-write g l = changes_in l.changes ≡ collected (shared_writes (take l.write-index l.writes))

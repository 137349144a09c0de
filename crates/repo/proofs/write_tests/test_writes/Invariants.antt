use Rattle.std.proofs.Common.{◌≡◌, Ok, take}
use Rattle.spec.specs.Writes.{batch_test}
use Rattle.spec.specs.States.{State}
use Rattle.batch_laws.specs.Collecting.{collected}
use Rattle.batches.specs.Values.{shared_writes}
use Rattle.repo.specs.Tested.{changes_in, IsTestStart}
use Rattle.repo.proofs.write_tests.test_writes.Given as goal

abbrev pub invariant-loop-place : goal.invariant-loop-place
invariant-loop-place g l = record {
  passed : (s : State) → IsTestStart g.D.Digest.digest_of g.row.B s l.room l.root l.kept.uses → batch_test s.limit s.accepted (shared_writes (take l.place l.writes)) ≡ Ok tt;
  changes : changes_in l.changes ≡ collected (shared_writes (take l.place l.writes));
}

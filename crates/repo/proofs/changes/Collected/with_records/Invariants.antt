use Rattle.std.proofs.Common.{◌≡◌, ◌++◌, map, Some}
use Rattle.batch_laws.specs.Uses.{records_come}
use Rattle.block.specs.Bytes.{shared_record}
use Rattle.repo.specs.Tested.{changes_in, shared_changes}
use Rattle.repo.proofs.changes.Collected.with_records.Given as goal

abbrev pub invariant-loop-write : goal.invariant-loop-write
invariant-loop-write g l =
    (goal.iterator-loop-write g).can_next l.write-iterator ×
    (goal.iterator-loop-write g).is_finite l.write-iterator ×
    (map shared_record l.writes.items ++ map Some (records_come (shared_changes l.write-iterator)) ≡ map Some (records_come (changes_in l.fn.self)))

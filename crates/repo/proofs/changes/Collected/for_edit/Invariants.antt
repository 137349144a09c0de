use Rattle.std.proofs.Common.{◌≡◌, ◌++◌, map}
use Rattle.std.specs.Arc.{arc_value}
use Rattle.std.specs.Slice.Iter.{iter_rest}
use Rattle.batch_laws.specs.Collecting.{with_cids}
use Rattle.batch_laws.specs.Uses.{records_come}
use Rattle.repo.specs.Tested.{changes_in, shared_changes}
use Rattle.repo.proofs.changes.Collected.for_edit.Given as goal

abbrev pub invariant-loop-key : goal.invariant-loop-key
invariant-loop-key g l =
    (goal.iterator-loop-key g).can_next l.key-iterator ×
    (goal.iterator-loop-key g).is_finite l.key-iterator ×
    (map arc_value (iter_rest l.left) ≡ records_come (shared_changes l.key-iterator)) ×
    (l.changes.items ++ with_cids g.D.Digest.digest_of (shared_changes l.key-iterator) ≡ with_cids g.D.Digest.digest_of (changes_in l.fn.self))

use Rattle.std.proofs.Common.{◌≡◌, ◌++◌}
use Rattle.std.specs.Iterator.Adapters.{zip_first, zip_second}
use Rattle.std.specs.Slice.Iter.{iter_rest}
use Rattle.repo.specs.Prepared.{keys_with}
use Rattle.repo.proofs.changes.told_changes.Given as goal

abbrev pub invariant-loop-change : goal.invariant-loop-change
invariant-loop-change g l =
    l.told.items ++ keys_with (iter_rest (zip_first l.change-iterator)) (iter_rest (zip_second l.change-iterator))
    ≡ keys_with l.changes l.before

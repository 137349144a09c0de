use Rattle.std.proofs.Common.{◌≡◌, ◌++◌}
use Rattle.std.specs.Iterator.Adapters.{zip_first, zip_second}
use Rattle.std.specs.Slice.Iter.{iter_rest}
use Rattle.change_proofs.specs.StepProvings.{told_as}
use Rattle.change_proofs.proofs.proving.told_changes.Given as goal

abbrev pub invariant-loop-change : goal.invariant-loop-change
invariant-loop-change g l =
    l.told.items ++ told_as (iter_rest (zip_first l.change-iterator)) (iter_rest (zip_second l.change-iterator))
    ≡ told_as l.changes l.previous

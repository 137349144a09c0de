use Rattle.std.proofs.Common.{refl}
use Rattle.std.specs.Prelude.{None}
use Rattle.std.specs.Iterator.Adapters.{zip_first, zip_second}
use Rattle.std.specs.Slice.Iter.{iter_rest}
use Rattle.std.proofs.lemmas.Slice.Zip.{either_empty_from_Zip}
use Rattle.repo.proofs.Telling.{all-told}
use Rattle.repo.proofs.changes.told_changes.Goals as goal

pub returns : goal.returns
returns g c =
    all-told c.loop-change.told.items _ (iter_rest (zip_first c.loop-change.change-iterator))
    (iter_rest (zip_second c.loop-change.change-iterator))
    (either_empty_from_Zip c.loop-change.change-iterator c.next.new.self None refl c.in-None.ensures.steps)
    c.loop-change.invariant

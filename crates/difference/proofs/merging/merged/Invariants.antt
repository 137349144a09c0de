use Rattle.std.proofs.Common.{◌+◌, length}
use Rattle.std.specs.Prelude.{reverse}
use Rattle.difference.specs.Merged.{pairs_in, changes_told}
use Rattle.difference.proofs.LastKeys.{IsMerging}
use Rattle.difference.proofs.merging.merged.Given as goal

abbrev pub invariant-rows : goal.invariant-rows
invariant-rows g l = IsMerging (pairs_in l.initial.old.items) (pairs_in l.initial.new.items) (pairs_in l.old.items)
    (pairs_in l.new.items) (changes_told (reverse l.changes.items))

abbrev pub decreases-rows : goal.decreases-rows
decreases-rows g l = length l.old.items + length l.new.items

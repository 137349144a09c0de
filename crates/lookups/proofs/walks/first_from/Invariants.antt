use Rattle.std.proofs.Common.{◌≡◌, length}
use Rattle.spec.specs.NodeFormat.{entries_of}
use Rattle.edit_laws.specs.Sources.{start_shape}
use Rattle.lookups.proofs.walks.first_from.Given as goal

abbrev pub invariant-rows : goal.invariant-rows
invariant-rows g l = start_shape l.from l.initial.rows.rest ≡ start_shape l.from l.rows.rest

abbrev pub decreases-rows : goal.decreases-rows
decreases-rows g l = length (entries_of l.rows.rest)

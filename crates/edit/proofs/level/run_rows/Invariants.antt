use Rattle.std.proofs.Common.{◌≡◌, ◌++◌, length}
use Rattle.edit_laws.specs.ShapeEdit.{last_link}
use Rattle.batch_laws.specs.Links.{rows_in_shape}
use Rattle.rows.specs.Entries.{pairs_left}
use Rattle.edit.proofs.level.run_rows.Given as goal

abbrev pub invariant-loop-rows : goal.invariant-loop-rows
invariant-loop-rows g l = record {
  written : l.written ≡ l.initial.written;
  start : l.rows.start ≡ length l.initial.rows.passed;
  read : l.rows.passed ++ rows_in_shape l.rows.rest ≡ l.initial.rows.passed ++ rows_in_shape l.initial.rows.rest;
  last : last_link l.rows.rest ≡ last_link l.initial.rows.rest;
}

abbrev pub decreases-loop-rows : goal.decreases-loop-rows
decreases-loop-rows g l = pairs_left l.rows.rest

use Rattle.std.proofs.Common.{length, ◌≡◌}
use Rattle.edit.specs.Passing.{IsTaken}
use Rattle.rows.specs.Entries.{pairs_left}
use Rattle.edit.proofs.level.run_untouched.Given as goal

-- what was read so far is untouched
abbrev pub invariant-loop-value : goal.invariant-loop-value
invariant-loop-value g l = record {
  written : l.written ≡ l.initial.written;
  start : l.rows.start ≡ length l.initial.rows.passed;
  taken : IsTaken l.layer l.changes l.initial.rows.passed l.initial.rows.rest l.rows.passed l.rows.rest;
}

abbrev pub decreases-loop-value : goal.decreases-loop-value
decreases-loop-value g l = pairs_left l.rows.rest

use Rattle.std.proofs.Common.{◌≡◌, ◌≤◌, ◌++◌, length}
use Rattle.rows.specs.Entries.{pairs_left, shape_of}
use Rattle.tizulgech.specs.Below.{below_bytes}
use Rattle.tizulgech.proofs.below.below_of.Given as goal

-- the links so far, and then those that are left
abbrev pub invariant-loop-bytes : goal.invariant-loop-bytes
invariant-loop-bytes l = record {
  within : l.place ≤ length l.changes;
  whole : below_bytes (shape_of l.view) 0 l.changes ≡ l.bytes.items ++ below_bytes l.rows.rest l.place l.changes;
}

abbrev pub decreases-loop-bytes : goal.decreases-loop-bytes
decreases-loop-bytes l = pairs_left l.rows.rest

use Rattle.std.proofs.Common.{◌≡◌, map, take}
use Rattle.batches.specs.Values.{writes_of}
use Rattle.repository_check.specs.Views.{keyed_record}
use Rattle.checked_opening.specs.Opening.{creates}
use Rattle.checked_opening.proofs.batch.creates_of.Given as goal

abbrev pub invariant-loop-record : goal.invariant-loop-record
invariant-loop-record g l = writes_of l.writes.items ≡ creates (map keyed_record (take l.record-index l.records))

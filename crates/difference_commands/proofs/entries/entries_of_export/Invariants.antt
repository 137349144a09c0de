use Rattle.std.proofs.Common.{◌≡◌, map, take}
use Rattle.repository_check.specs.Views.{keyed_record, pair_of}
use Rattle.difference_commands.specs.Views.{pairs_in, records_in}
use Rattle.difference_commands.proofs.entries.entries_of_export.Given as goal

abbrev pub invariant-loop-record : goal.invariant-loop-record
invariant-loop-record g l = record {
  pairs : pairs_in l.entries.items ≡ map pair_of (take l.record-index l.records);
  records : records_in l.entries.items ≡ map keyed_record (take l.record-index l.records);
}

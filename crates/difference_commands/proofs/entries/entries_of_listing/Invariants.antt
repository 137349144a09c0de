use Rattle.std.proofs.Common.{◌≡◌, take}
use Rattle.difference_commands.specs.Files.{without_records}
use Rattle.difference_commands.specs.Views.{pairs_in, records_in}
use Rattle.difference_commands.proofs.entries.entries_of_listing.Given as goal

abbrev pub invariant-loop-key : goal.invariant-loop-key
invariant-loop-key g l = record {
  pairs : pairs_in l.entries.items ≡ take l.key-index l.pairs;
  records : records_in l.entries.items ≡ without_records (take l.key-index l.pairs);
}

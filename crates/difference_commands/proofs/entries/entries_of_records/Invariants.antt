use Rattle.std.proofs.Common.{◌≡◌, take}
use Rattle.spec.specs.Blocks.{pairs as pairs_of}
use Rattle.difference_commands.specs.Views.{keyed, pairs_in, records_in}
use Rattle.difference_commands.proofs.entries.entries_of_records.Given as goal

abbrev pub invariant-loop-key : goal.invariant-loop-key
invariant-loop-key g l = record {
  pairs : pairs_in l.entries.items ≡ pairs_of g.D.Digest.digest_of (keyed (take l.key-index l.records));
  records : records_in l.entries.items ≡ keyed (take l.key-index l.records);
}

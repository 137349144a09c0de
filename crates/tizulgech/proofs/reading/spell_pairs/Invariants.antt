use Rattle.std.proofs.Common.{◌≡◌, ◌++◌, drop}
use Rattle.lookups.specs.Walks.{pairs_given}
use Rattle.buffers.specs.Answers.{pairs_bytes}
use Rattle.tizulgech.proofs.reading.spell_pairs.Given as goal

abbrev pub invariant-loop-key : goal.invariant-loop-key
invariant-loop-key l = pairs_bytes (pairs_given l.pairs) ≡ l.bytes.items ++ pairs_bytes (pairs_given (drop l.key-index l.pairs))

use Rattle.std.proofs.Common.{◌≡◌, ◌++◌, drop, length}
use Rattle.lookups.specs.Walks.{pairs_given}
use Rattle.buffers.specs.Answers.{pairs_bytes}
use Rattle.tizulgech.specs.Parting.{page_of, page_behind}
use Rattle.tizulgech.proofs.pages.spell_page.Given as goal

-- the pairs so far, and then those that go on
abbrev pub invariant-loop-key : goal.invariant-loop-key
invariant-loop-key l =
    pairs_bytes (page_of l.room (pairs_given l.pairs))
    ≡ l.bytes.items ++ pairs_bytes (page_behind l.room (length l.bytes.items) (pairs_given (drop l.key-index l.pairs)))

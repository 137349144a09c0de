use Rattle.std.proofs.Common.{◌≡◌, ◌++◌}
use Rattle.batch_laws.specs.Collecting.{collected, with_cids}
use Rattle.batches.specs.Values.{writes_of}
use Rattle.repo.specs.Tested.{changes_of}
use Rattle.change_commands.proofs.changed.changes_of.Given as goal

abbrev pub invariant-loop-key : goal.invariant-loop-key
invariant-loop-key g l =
    (goal.iterator-loop-key g).can_next l.key-iterator
    × (goal.iterator-loop-key g).is_finite l.key-iterator
    × (l.changes.items ++ with_cids g.D.Digest.digest_of (changes_of l.key-iterator)
    ≡ with_cids g.D.Digest.digest_of (collected (writes_of l.writes)))

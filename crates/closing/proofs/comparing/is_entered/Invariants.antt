use Rattle.kept.specs.Uses.{used_blocks}
use Rattle.closing.proofs.Entries.{Done, Left}
use Rattle.closing.proofs.comparing.is_entered.Given as goal

abbrev pub invariant-loop-block : goal.invariant-loop-block
invariant-loop-block g l =
    (goal.iterator-loop-block g).can_next l.block-iterator ×
    (goal.iterator-loop-block g).is_finite l.block-iterator ×
    (Done g.D.Digest.digest_of g.row.B l.core l.tables (used_blocks l.block-iterator.entries) × Left g.D.Digest.digest_of g.row.B l.core (used_blocks l.block-iterator.entries))

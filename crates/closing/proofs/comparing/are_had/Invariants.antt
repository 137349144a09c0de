use Rattle.closing.proofs.Entries.{Going}
use Rattle.closing.proofs.comparing.are_had.Given as goal

abbrev pub invariant-loop-cid : goal.invariant-loop-cid
invariant-loop-cid g l =
    (goal.iterator-loop-cid g).can_next l.cid-iterator ×
    (goal.iterator-loop-cid g).is_finite l.cid-iterator ×
    Going g.D.Digest.digest_of g.row.B l.cores l.shard l.table l.cid-iterator

use Rattle.closing.proofs.Adding.{Adding}
use Rattle.closing.proofs.block_counts.add_counts.Given as goal

abbrev pub invariant-loop-cid : goal.invariant-loop-cid
invariant-loop-cid g l =
    (goal.iterator-loop-cid g).can_next l.cid-iterator ×
    (goal.iterator-loop-cid g).is_finite l.cid-iterator ×
    Adding l.fn.all.entries l.all.entries l.shard l.table l.cid-iterator

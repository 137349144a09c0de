use Rattle.std.proofs.Common.{◌≡◌, ℕ, List, cond, nat_lt, None}
use Rattle.store.specs.Table.{shard_of}
use Rattle.closing.specs.Tally.{count}
use Rattle.closing.specs.Counts.{count_in, positive}
use Rattle.closing.proofs.block_counts.all_counts.Given as goal

abbrev pub invariant-loop-shard : goal.invariant-loop-shard
invariant-loop-shard g l = (cid : List ℕ) → count_in l.all.entries cid ≡ cond (nat_lt (shard_of cid) l.shard) (positive (count l.tables cid)) None

use Rattle.std.proofs.Common.{ℕ, ◌<◌, slice_index_or}
use Rattle.store.specs.Shards.{no_table}
use Rattle.closing.specs.Tally.{AreHad}
use Rattle.closing.proofs.comparing.all_had.Given as goal

abbrev pub invariant-loop-shard : goal.invariant-loop-shard
invariant-loop-shard g l = (shard : ℕ) → shard < l.shard → AreHad g.D.Digest.digest_of g.row.B l.cores shard (slice_index_or l.tables shard no_table)

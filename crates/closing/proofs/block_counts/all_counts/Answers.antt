use Rattle.std.proofs.Common.{◌≡◌, ◌∙◌, ℕ, cond, nat_lt, None, arith, slice_index_or, subst, sym}
use Rattle.std.proofs.lemmas.List.{get_or_read}
use Rattle.store.specs.Shards.{no_table}
use Rattle.store.specs.Table.{shard_of}
use Rattle.closing.specs.Tally.{count}
use Rattle.closing.specs.Counts.{count_in, positive}
use Rattle.closing.proofs.Adding.{all_added, none_added, table_added}
use Rattle.closing.proofs.block_counts.all_counts.Goals as goal

pub loop-shard-init : goal.loop-shard-init
loop-shard-init g c cid = none_added c.args.tables.now c.new-all.result.entries cid c.new-all.ensures.empty

pub loop-shard-preserved : goal.loop-shard-preserved
loop-shard-preserved g c cid =
    table_added c.args.tables.now c.loop-shard.shard (slice_index_or c.args.tables.now c.loop-shard.shard c.index-tables-shard.result)
    c.loop-shard.all.entries c.add_counts.new.all.entries cid
    (sym c.index-tables-shard.is ∙ get_or_read c.args.tables.now c.loop-shard.shard c.index-tables-shard.result (omega (arith, c.loop-shard-test.true, c.type_inv.tables)) c.index-tables-shard.is no_table)
    (c.in_ok-add_counts.ensures cid)
    (c.loop-shard.invariant cid)

pub returns : goal.returns
returns g c cid =
    let all : c.loop-shard.shard ≡ 16 = omega (arith, c.loop-shard-test.false, c.loop-shard.auto.shard-end) in
    all_added c.args.tables.now c.loop-shard.all.entries cid
    (subst (λ (n : ℕ). count_in c.loop-shard.all.entries cid ≡ cond (nat_lt (shard_of cid) n) (positive (count c.args.tables.now cid)) None) all (c.loop-shard.invariant cid))

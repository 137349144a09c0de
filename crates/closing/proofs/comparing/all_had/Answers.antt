use Rattle.std.proofs.Common.{subst, sym, ◌∙◌, get_or, below_more, arith}
use Rattle.std.proofs.lemmas.List.{get_or_read}
use Rattle.store.specs.Table.{Table}
use Rattle.store.specs.Shards.{no_table}
use Rattle.closing.specs.Tally.{AreHad, AreWithout}
use Rattle.closing.proofs.Entries.{without_is}
use Rattle.closing.proofs.comparing.all_had.Goals as goal

pub loop-shard-preserved : goal.loop-shard-preserved
loop-shard-preserved g c shard less =
    below_more (λ k. AreHad g.D.Digest.digest_of g.row.B c.args.cores.now k (get_or c.args.tables.now k no_table)) c.loop-shard.shard (λ k h. c.loop-shard.invariant k h)
    (subst (λ (t : Table). AreHad g.D.Digest.digest_of g.row.B c.args.cores.now c.loop-shard.shard t)
    (sym c.index-tables-shard.is ∙ get_or_read c.args.tables.now c.loop-shard.shard c.index-tables-shard.result (omega (arith, c.loop-shard-test.true)) c.index-tables-shard.is no_table)
    c.if-not-are_had.ensures)
    shard less

pub returns : goal.returns
returns g c shard less = c.loop-shard.invariant shard (omega (arith, c.loop-shard-test.false, c.type_inv.tables))

pub returns-then-not-are_had : goal.returns-then-not-are_had
returns-then-not-are_had g c =
    without_is g.D.Digest.digest_of g.row.B c.args.cores.now c.args.tables.now c.loop-shard.shard c.index-tables-shard.result c.type_inv.tables
    (omega (arith, c.loop-shard-test.true)) c.index-tables-shard.is
    (subst (λ (t : Table). AreWithout g.D.Digest.digest_of g.row.B c.args.cores.now c.loop-shard.shard t) (sym c.index-tables-shard.is) c.if-not-are_had.ensures)

use Rattle.std.proofs.Common.{sym, ◌∙◌, subst}
use Rattle.closing.proofs.Adding.{Adding, adding_start, adding_some, adding_keep, adding_put, other_counted, put_counted}
use Rattle.closing.proofs.block_counts.add_counts.Goals as goal

pub loop-cid-init : goal.loop-cid-init
loop-cid-init g c = (
  tt,
  tt,
  subst (Adding c.args.all.now.entries c.args.all.now.entries c.args.shard c.args.table.now)
      (sym c.into_iter-cid-iterator.ensures.into_iter_gives)
      (adding_start g.D.Digest.digest_of c.args.all.now.entries c.args.shard c.args.table.now _ c.entries-cid-items.ensures.entries c.entries-cid-items.ensures.lawful),
)

pub loop-cid-preserved-then-shard_number-shard : goal.loop-cid-preserved-then-shard_number-shard
loop-cid-preserved-then-shard_number-shard g c = (
  tt,
  tt,
  adding_keep c.args.all.now.entries c.args.shard c.args.table.now c.in-Some.cid c.in-Some.field-0-1 c.next.new.self c.loop-cid.cid-iterator c.in-Some.ensures.steps
      c.loop-cid.all.entries
      (other_counted c.args.all.now.entries c.args.shard c.args.table.now c.in-Some.cid (λ e. c.if-shard_number-shard.true (c.shard_number.ensures.value ∙ e)))
      c.loop-cid.invariant.2,
)

pub loop-cid-preserved : goal.loop-cid-preserved
loop-cid-preserved g c = (
  tt,
  tt,
  adding_put c.args.all.now.entries c.args.shard c.args.table.now c.in-Some.cid c.in-Some.field-0-1 c.next.new.self c.loop-cid.cid-iterator c.in-Some.ensures.steps
      c.loop-cid.all.entries c.insert.new.self.entries c.count-count.result
      (put_counted c.args.all.now.entries c.args.shard c.args.table.now c.in-Some.cid c.count-count.result (sym c.count-count.ensures.count)
      (adding_some c.args.all.now.entries c.args.shard c.args.table.now c.in-Some.cid c.in-Some.field-0-1 c.next.new.self c.loop-cid.cid-iterator c.in-Some.ensures.steps
      c.loop-cid.all.entries c.loop-cid.invariant.2)
      (sym c.shard_number.ensures.value ∙ c.if-shard_number-shard.false))
      c.in-Ok.ensures.updates.0
      c.loop-cid.invariant.2,
)

use Rattle.std.proofs.Common.{rules, ◌∙◌, sym, subst}
use Rattle.closing.proofs.Entries.{Going, going_start, going_step, going_without, going_item, going_end, small_at}
use Rattle.closing.proofs.comparing.are_had.Goals as goal
use Rattle.closing.proofs.comparing.are_had.Goals.{else-shard_number-shard-via-then-shard_number-shard+else-not-all_have, else-shard_number-shard-via-else-shard_number-shard}

pub loop-cid-init : goal.loop-cid-init
loop-cid-init g c = (
  tt,
  tt,
  subst (Going g.D.Digest.digest_of g.row.B c.args.cores.now c.args.shard c.args.table.now)
      (sym c.into_iter-cid-iterator.ensures.into_iter_gives)
      (going_start g.D.Digest.digest_of g.row.B c.args.cores.now c.args.shard c.args.table.now _ c.entries-cid-items.ensures.entries),
)

pub all_have-requires : goal.all_have-requires
all_have-requires g c = (
  search rules,
  (
    c.requires,
    λ number h.
        small_at g.D.Digest.digest_of c.args.table.now c.in-Some.cid number c.entries-cid-items.ensures.lawful
        (going_item g.D.Digest.digest_of g.row.B c.args.cores.now c.args.shard c.args.table.now c.in-Some.cid c.in-Some.entered c.next.new.self c.loop-cid.cid-iterator c.in-Some.ensures.steps c.loop-cid.invariant.2 number h),
  ),
)

pub returns-then-not-all_have : goal.returns-then-not-all_have
returns-then-not-all_have g c =
    going_without g.D.Digest.digest_of g.row.B c.args.cores.now c.args.shard c.args.table.now c.in-Some.cid c.in-Some.entered c.next.new.self c.loop-cid.cid-iterator c.in-Some.ensures.steps c.loop-cid.invariant.2
    (sym c.shard_number.ensures.value ∙ c.if-shard_number-shard.true) c.if-not-all_have.ensures

pub loop-cid-preserved : goal.loop-cid-preserved
loop-cid-preserved g c = (
  tt,
  tt,
  going_step g.D.Digest.digest_of g.row.B c.args.cores.now c.args.shard c.args.table.now c.in-Some.cid c.in-Some.entered c.next.new.self c.loop-cid.cid-iterator c.in-Some.ensures.steps
      (elim c.else-shard_number-shard.branch [
        | else-shard_number-shard-via-then-shard_number-shard+else-not-all_have w ↦ λ in_shard. w.if-not-all_have.ensures
        | else-shard_number-shard-via-else-shard_number-shard w ↦ λ in_shard. absurd (w.if-shard_number-shard.false (c.shard_number.ensures.value ∙ in_shard))
      ])
      c.loop-cid.invariant.2,
)

pub returns : goal.returns
returns g c = going_end g.D.Digest.digest_of g.row.B c.args.cores.now c.args.shard c.args.table.now c.loop-cid.cid-iterator c.in-None.ensures.steps.0 c.loop-cid.invariant.2

use Rattle.std.proofs.Common.{List, ℕ, ◌∙◌, sym, ap, subst}
use Rattle.std.specs.Arc.{arc_value}
use Rattle.spec.specs.Cid.{cid as cid_of}
use Rattle.kept.specs.Uses.{used_blocks}
use Rattle.kept.specs.declared.blocks.Blocks.{Blocks}
use Rattle.closing.proofs.Having.{has_once}
use Rattle.closing.proofs.Entries.{Done, Left, done_start, done_step, done_end, missed, looked_up}
use Rattle.closing.proofs.comparing.is_entered.Goals as goal

pub loop-block-init : goal.loop-block-init
loop-block-init g c = (
  tt,
  tt,
  subst (λ (bs : List (List ℕ)). Done g.D.Digest.digest_of g.row.B c.args.core.now c.args.tables.now bs × Left g.D.Digest.digest_of g.row.B c.args.core.now bs)
      (ap (λ (i : Blocks g.row.D.Denot g.row.A.Denot). used_blocks i.entries) (sym c.into_iter-block-iterator.ensures.into_iter_gives))
      (done_start g.D.Digest.digest_of g.row.B c.args.core.now c.args.tables.now (used_blocks c.blocks-block-items.result.entries)
      (has_once g.D.Digest.digest_of g.row.B c.args.core.now (used_blocks c.blocks-block-items.result.entries) c.blocks-block-items.ensures.blocks)),
)

pub returns-then-not-has : goal.returns-then-not-has
returns-then-not-has g c =
    missed g.D.Digest.digest_of g.row.B c.args.core.now c.args.tables.now (arc_value c.in-Some.block.now) (used_blocks c.next.new.self.entries) (used_blocks c.loop-block.block-iterator.entries) c.in-Some.ensures.steps
    (looked_up c.args.tables.now (cid_of g.D.Digest.digest_of (arc_value c.in-Some.block.now)) c.cid-cid.result c.args.core.now.me c.me.result c.shard_number.result c.index-tables-shard_number.result c.has.result
    c.type_inv.tables (c.cid-cid.ensures ∙ ap (cid_of g.D.Digest.digest_of) c.deref.ensures) c.me.ensures.value c.shard_number.ensures.value c.shard_number.ensures.small c.index-tables-shard_number.is c.has.ensures
    ∙ c.if-not-has.true)
    c.loop-block.invariant.2.1

pub loop-block-preserved : goal.loop-block-preserved
loop-block-preserved g c = (
  tt,
  tt,
  done_step g.D.Digest.digest_of g.row.B c.args.core.now c.args.tables.now (arc_value c.in-Some.block.now) (used_blocks c.next.new.self.entries) (used_blocks c.loop-block.block-iterator.entries) c.in-Some.ensures.steps
      (looked_up c.args.tables.now (cid_of g.D.Digest.digest_of (arc_value c.in-Some.block.now)) c.cid-cid.result c.args.core.now.me c.me.result c.shard_number.result c.index-tables-shard_number.result c.has.result
      c.type_inv.tables (c.cid-cid.ensures ∙ ap (cid_of g.D.Digest.digest_of) c.deref.ensures) c.me.ensures.value c.shard_number.ensures.value c.shard_number.ensures.small c.index-tables-shard_number.is c.has.ensures
      ∙ c.if-not-has.false)
      c.loop-block.invariant.2,
)

pub returns : goal.returns
returns g c = done_end g.D.Digest.digest_of g.row.B c.args.core.now c.args.tables.now (used_blocks c.loop-block.block-iterator.entries) c.in-None.ensures.steps.0 c.loop-block.invariant.2.0

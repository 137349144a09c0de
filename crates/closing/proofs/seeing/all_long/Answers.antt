use Rattle.std.proofs.Common.{rules, length, subst, sym, ◌∙◌, ap, get_or, below_more, arith}
use Rattle.std.proofs.lemmas.List.{get_or_read}
use Rattle.ended.specs.Ending.{EndedView}
use Rattle.closing.specs.Settling.{IsShort, NoneShort}
use Rattle.closing.proofs.seeing.all_long.Goals as goal

pub loop-one-preserved : goal.loop-one-preserved
loop-one-preserved g c place d less =
    below_more (λ k. NoneShort c.args.cores.now (get_or c.args.ended.now k d).seen) c.loop-one.one-index (λ k h. c.loop-one.invariant k d h)
    (subst (NoneShort c.args.cores.now) (c.seen.ensures
    ∙ ap (λ (e : EndedView). e.seen) (get_or_read c.args.ended.now c.loop-one.one-index c.one-item.result c.loop-one-test.true c.one-item.is d))
    c.if-not-none_short.ensures)
    place less

pub returns : goal.returns
returns g c place d less = c.loop-one.invariant place d (omega (arith, c.loop-one-test.false))

pub none_short-requires : goal.none_short-requires
none_short-requires g c = (
  search rules,
  ap length c.seen.ensures ∙ ap (λ (e : EndedView). length e.seen) c.one-item.is ∙ c.requires c.loop-one.one-index c.one-item.result c.loop-one-test.true,
)

pub returns-then-not-none_short : goal.returns-then-not-none_short
returns-then-not-none_short g c = (
  c.one-item.result,
  (c.loop-one.one-index, c.loop-one-test.true, sym c.one-item.is),
  subst (IsShort c.args.cores.now) c.seen.ensures c.if-not-none_short.ensures,
)

use Rattle.std.proofs.lemmas.Grind.{common_steps}
use Rattle.std.proofs.Common.{sym, ◌∙◌, arith}
use Rattle.closing.specs.Tally.{have}
use Rattle.closing.proofs.Numbers.{next_had, all_had, next_small}
use Rattle.closing.proofs.comparing.all_have.Goals as goal

pub loop-number-preserved : goal.loop-number-preserved
loop-number-preserved g c = (
  next_small c.in-Some.number (c.requires.small c.in-Some.number c.in-Some.ensures.there),
  next_had (have g.D.Digest.digest_of g.row.B c.args.cores.now c.args.cid.now) c.args.entered.now c.loop-number.from c.loop-number.invariant.1
      c.in-Some.number c.in-Some.ensures (sym c.has_number.ensures ∙ c.if-not-has_number.false),
)

pub returns : goal.returns
returns g c =
    all_had (have g.D.Digest.digest_of g.row.B c.args.cores.now c.args.cid.now) c.args.entered.now c.loop-number.from c.loop-number.invariant.1 c.in_default.ensures

pub overflow_add-from : goal.overflow_add-from
overflow_add-from g c = grind (arith, common_steps)

pub loop-number-smaller : goal.loop-number-smaller
loop-number-smaller g c = grind (arith, common_steps)

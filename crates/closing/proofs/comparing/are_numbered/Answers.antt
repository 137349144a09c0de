use Rattle.std.proofs.lemmas.Grind.{common_steps}
use Rattle.closing.proofs.Entries.{misnumbered, numbered_more}
use Rattle.std.proofs.Common.{◌∙◌, sym, arith}
use Rattle.closing.proofs.comparing.are_numbered.Goals as goal

pub returns-then-me-place : goal.returns-then-me-place
returns-then-me-place g c =
    misnumbered c.args.cores.now c.loop-place.place c.index-cores-place.result c.loop-place-test.true c.index-cores-place.is (λ e. c.if-me-place.true (c.me.ensures.value ∙ e))

pub loop-place-preserved : goal.loop-place-preserved
loop-place-preserved g c =
    numbered_more c.args.cores.now c.loop-place.place c.index-cores-place.result c.loop-place-test.true c.index-cores-place.is (sym c.me.ensures.value ∙ c.if-me-place.false) c.loop-place.invariant

pub returns : goal.returns
returns g c = grind (arith, common_steps)

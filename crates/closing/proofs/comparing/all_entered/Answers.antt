use Rattle.std.proofs.Common.{subst, get_or, below_more, arith}
use Rattle.std.proofs.lemmas.List.{get_or_read}
use Rattle.spec.specs.States.{State}
use Rattle.closing.specs.Tally.{IsEntered}
use Rattle.closing.proofs.Entries.{missed_is}
use Rattle.closing.proofs.comparing.all_entered.Goals as goal

pub returns-then-not-is_entered : goal.returns-then-not-is_entered
returns-then-not-is_entered g c =
    missed_is g.D.Digest.digest_of g.row.B c.args.cores.now c.args.tables.now c.loop-core.core-index c.core-item.result c.loop-core-test.true c.core-item.is c.if-not-is_entered.ensures

pub loop-core-preserved : goal.loop-core-preserved
loop-core-preserved g c place d less =
    below_more (λ k. IsEntered g.D.Digest.digest_of g.row.B (get_or c.args.cores.now k d) c.args.tables.now) c.loop-core.core-index (λ k h. c.loop-core.invariant k d h)
    (subst (λ (s : State). IsEntered g.D.Digest.digest_of g.row.B s c.args.tables.now)
    (get_or_read c.args.cores.now c.loop-core.core-index c.core-item.result c.loop-core-test.true c.core-item.is d)
    c.if-not-is_entered.ensures)
    place less

pub returns : goal.returns
returns g c place d less = c.loop-core.invariant place d (omega (arith, c.loop-core-test.false))

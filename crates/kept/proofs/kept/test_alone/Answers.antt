use Rattle.std.proofs.Common.{map, sym, subst, take, ◌∙◌, arith}
use Rattle.std.specs.Arc.{arc_value}
use Rattle.lookups.specs.Maps.{first_of}
use Rattle.kept.specs.Alone.{AreAlone, IsGivenSame}
use Rattle.kept.specs.Uses.{counted}
use Rattle.kept.proofs.Exchanging.{block_further}
use Rattle.kept.proofs.Fronting.{alone-more}
use Rattle.kept.proofs.kept.test_alone.Goals as goal

pub loop-block-preserved : goal.loop-block-preserved
loop-block-preserved g c =
    let dig = g.D.Digest.digest_of in
    let at = c.loop-block in
    let gives = first_of dig c.args.front.now.blocks in
    let come = c.args.come.now in
    let x = c.block-item.result in
    record {
      gives = c.test_first.ensures.gives ∙ at.invariant.gives;
      alone = subst (AreAlone dig gives (counted c.args.kept.now)) (sym (block_further come at.block-index x (omega arith) c.block-item.is))
          (alone-more dig gives (counted c.args.kept.now) (map arc_value (take at.block-index come)) (arc_value x) at.invariant.alone
          (subst (λ f. IsGivenSame dig f (arc_value x)) at.invariant.gives c.in_ok-test_first.ensures.same)
          c.in_ok-test_other.ensures.none);
    }

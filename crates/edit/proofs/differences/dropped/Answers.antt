use Rattle.std.proofs.Common.{◌≡◌, map, rules, true, false, sym, ap, ◌∙◌, arith}
use Rattle.std.proofs.lemmas.Grind.{common_steps}
use Rattle.std.specs.Arc.{arc_value}
use Rattle.spec.specs.Cid.{cid}
use Rattle.edit_laws.specs.Changes.{has_cid}
use Rattle.edit.proofs.Placed.{drop-step}
use Rattle.edit.proofs.differences.dropped.Goals as goal

pub loop-lent-preserved : goal.loop-lent-preserved
loop-lent-preserved g c =
    let digest = g.D.Digest.digest_of in
    let made = map arc_value c.args.made.now in
    let cid_is : c.cid-cid.result ≡ cid digest (arc_value c.lent-item.result) = search rules in
    let again : c.has.result ≡ has_cid (cid digest (arc_value c.lent-item.result)) (map (cid digest) made) =
    c.has.ensures (map (cid digest) made) c.loop-lent.invariant.placed ∙ ap (λ k. has_cid k (map (cid digest) made)) cid_is in
    record {
      placed = c.loop-lent.invariant.placed;
      dropped = elim c.if-not-has.branch [
        | goal.then-not-has+in_ok-push w ↦
            (let new : c.has.result ≡ false = search rules in
            drop-step arc_value digest made c.args.gone.now c.loop-lent.lent-index c.lent-item.result false
            c.loop-lent.dropped.items c.if-not-has.dropped.items c.loop-lent-test.true c.lent-item.is (sym new ∙ again)
            c.loop-lent.invariant.dropped (search rules))
        | goal.else-not-has w ↦
            (let old : c.has.result ≡ true = search rules in
            drop-step arc_value digest made c.args.gone.now c.loop-lent.lent-index c.lent-item.result true
            c.loop-lent.dropped.items c.if-not-has.dropped.items c.loop-lent-test.true c.lent-item.is (sym old ∙ again)
            c.loop-lent.invariant.dropped (search rules))
      ];
    }

pub returns : goal.returns
returns g c = grind (arith, common_steps)

use Rattle.std.proofs.Common.{◌≤◌, ap, get_or, slice_index, length, below_more, arith}
use Rattle.std.proofs.lemmas.List.{get_or_read}
use Rattle.spec.specs.States.{State}
use Rattle.closing.proofs.seeing.none_short.Goals as goal

pub returns-then-number-seen : goal.returns-then-number-seen
returns-then-number-seen g c = (
  c.loop-place.place,
  c.loop-place-test.true,
  λ d.
      let same = ap (λ (s : State). length s.accepted)
      (get_or_read c.args.cores.now c.loop-place.place c.index-cores-place.result c.loop-place-test.true c.index-cores-place.is d) in
      omega (arith, same, c.number.ensures.value, c.if-number-seen.true),
)

pub loop-place-preserved : goal.loop-place-preserved
loop-place-preserved g c place d less =
    below_more (λ k. slice_index c.args.seen.now k ≤ length (get_or c.args.cores.now k d).accepted) c.loop-place.place (λ k h. c.loop-place.invariant k d h)
    (let same = ap (λ (s : State). length s.accepted)
    (get_or_read c.args.cores.now c.loop-place.place c.index-cores-place.result c.loop-place-test.true c.index-cores-place.is d) in
    omega (arith, same, c.number.ensures.value, c.if-number-seen.false))
    place less

pub returns : goal.returns
returns g c place d less = c.loop-place.invariant place d (omega (arith, c.loop-place-test.false))

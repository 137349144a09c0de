use Rattle.std.proofs.Common.{◌≡◌, ◌+◌, ◌-◌, ◌<◌, length, drop, subst, arith, rules}
use Rattle.edit_laws.specs.Pairs.{Ascending}
use Rattle.difference.specs.Merged.{pairs_in}
use Rattle.difference.proofs.LastKeys.{asc-more, asc-none, asc-not}
use Rattle.difference.proofs.merging.is_ascending.Goals as goal

pub loop-left-init : goal.loop-left-init
loop-left-init g c = record {
  within = omega arith;
  ascends = asc-none c.args.rows.now;
}

pub returns-then-not-comes_first : goal.returns-then-not-comes_first
returns-then-not-comes_first g c =
    let rs = c.args.rows.now in
    let i = c.loop-left.left - 1 in
    let x = c.index-rows-left.result in
    let short : i < length rs = omega arith in
    let next : c.loop-left.left ≡ i + 1 = omega arith in
    asc-not rs i x c.comes_first.result short c.index-rows-left.is c.comes_first.ensures c.if-not-comes_first.true
    (subst (λ k. Ascending (pairs_in (drop k rs))) next c.loop-left.invariant.ascends)

pub loop-left-preserved : goal.loop-left-preserved
loop-left-preserved g c =
    let rs = c.args.rows.now in
    let i = c.loop-left.left - 1 in
    let x = c.index-rows-left.result in
    let short : i < length rs = omega arith in
    let next : c.loop-left.left ≡ i + 1 = omega arith in
    record {
      within = omega arith;
      ascends = asc-more rs i x c.comes_first.result short c.index-rows-left.is c.comes_first.ensures c.if-not-comes_first.false
          (subst (λ k. Ascending (pairs_in (drop k rs))) next c.loop-left.invariant.ascends);
    }

pub returns : goal.returns
returns g c =
    let rs = c.args.rows.now in
    let none : c.loop-left.left ≡ 0 = omega arith in
    ((λ h. subst (λ k. Ascending (pairs_in (drop k rs))) none c.loop-left.invariant.ascends), λ h. search rules)

use Rattle.std.proofs.Common.{◌<◌, ◌^◌, ◌-◌, arith}
use Rattle.dagcbor.proofs.Powers.{power-more, power-small, power-some}
use Rattle.dagcbor.proofs.number.+varint_within.Goals as goal

pub returns-then-first-lt128-clause-small : goal.returns-then-first-lt128-clause-small
returns-then-first-lt128-clause-small t c =
    let more = power-more c.args.most (omega arith) in
    let e : c.from.result < 128 = omega arith in
    let some : 0 < 128 ^ (c.args.most - 1) = power-some (c.args.most - 1) in
    omega (arith, more, e, some)

pub overflow_mul-result : goal.overflow_mul-result
overflow_mul-result t c =
    let less : c.in_ok-high.high < 128 ^ (c.args.most - 1) = c.in_ok-high.ensures.small in
    let more = power-more c.args.most (omega arith) in
    let small = power-small c.args.most (omega arith) in
    omega (arith, less, more, small)

pub overflow_add-result : goal.overflow_add-result
overflow_add-result t c =
    let less : c.in_ok-high.high < 128 ^ (c.args.most - 1) = c.in_ok-high.ensures.small in
    let more = power-more c.args.most (omega arith) in
    let small = power-small c.args.most (omega arith) in
    omega (arith, less, more, small)

pub returns-clause-small : goal.returns-clause-small
returns-clause-small t c =
    let less : c.in_ok-high.high < 128 ^ (c.args.most - 1) = c.in_ok-high.ensures.small in
    let more = power-more c.args.most (omega arith) in
    omega (arith, less, more)

use Rattle.std.proofs.Common.{◌*◌, ◌+◌, ◌≤◌, arith, subst}
use Rattle.std.specs.FinSet as set
use Rattle.std.specs.Ordering.{nat_cmp}
use Rattle.store.specs.Cores.{IsNextFrom, HasNoneFrom}
use Rattle.store.proofs.Bits.{bare_more, next_in_word, none_in_words}
use Rattle.store.proofs.cores.Cores.next_from.Goals as goal

pub loop-place-init : goal.loop-place-init
loop-place-init c = record { small = omega arith; ahead = omega arith; bare = λ q l m. absurd (omega arith) }

pub loop-place-preserved : goal.loop-place-preserved
loop-place-preserved c =
    let at = c.loop-place in
    let ahead = at.invariant.ahead in
    let small = at.invariant.small in record {
      small = omega arith;
      ahead = omega arith;
      bare = bare_more c.self.inside.words c.args.core at.place at.from at.invariant.bare c.in_default.ensures;
    }

pub returns-in-Some : goal.returns-in-Some
returns-in-Some c =
    let at = c.loop-place in
    subst (λ (s : set.FinSet nat_cmp). IsNextFrom s c.args.core (64 * at.place + c.in-Some.bit)) c.self.view_is
    (next_in_word c.self.inside.words c.args.core at.place at.from c.in-Some.bit at.invariant.ahead c.loop-place-test.true at.invariant.bare c.in-Some.ensures)

pub returns : goal.returns
returns c =
    let at = c.loop-place in
    let all : 1024 ≤ 64 * at.place + at.from = let t = c.loop-place-test.false in omega arith in
    subst (λ (s : set.FinSet nat_cmp). HasNoneFrom s c.args.core) c.self.view_is
    (none_in_words c.self.inside.words c.args.core (64 * at.place + at.from) all at.invariant.bare)

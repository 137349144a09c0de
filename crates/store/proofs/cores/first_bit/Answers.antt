use Rattle.std.proofs.Common.{rules, arith}
use Rattle.store.proofs.Bits.{no_bit, lowest_bit}
use Rattle.store.proofs.cores.first_bit.Goals as goal

pub returns-then-rest-eq0 : goal.returns-then-rest-eq0
returns-then-rest-eq0 c = no_bit c.args.word c.args.from c.if-rest-eq0.true

pub returns : goal.returns
returns c =
    let some = c.if-rest-eq0.false in
    lowest_bit c.args.word c.args.from (search rules) (omega arith)

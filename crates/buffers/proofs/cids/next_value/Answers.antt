use Rattle.std.proofs.Common.{◌≤◌, length, sym, arith}
use Rattle.std.proofs.lemmas.List.{take_all}
use Rattle.std.proofs.Math.ListN.{drop_of_length-le}
use Rattle.buffers.proofs.cids.next_value.Goals as goal

pub returns-then-bytes-lt36-clause-value : goal.returns-then-bytes-lt36-clause-value
returns-then-bytes-lt36-clause-value c = sym (take_all 36 c.args.bytes.now (grind arith))

pub returns-then-bytes-lt36-clause-rest : goal.returns-then-bytes-lt36-clause-rest
returns-then-bytes-lt36-clause-rest c =
    let few : length c.args.bytes.now ≤ 36 = grind arith in
    sym (drop_of_length-le c.args.bytes.now few)

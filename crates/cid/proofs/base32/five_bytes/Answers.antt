use Rattle.std.proofs.Common.{arith}
use Rattle.cid.proofs.Groups.{eight_small}
use Rattle.cid.proofs.base32.five_bytes.Goals as goal

pub joined-requires : goal.joined-requires
joined-requires c =
    eight_small c.args.values.now (omega arith) c.if-a-lt32.true c.if-b-lt32.true c.if-c-lt32.true c.if-d-lt32.true c.if-e-lt32.true c.if-f-lt32.true c.if-g-lt32.true c.if-h-lt32.true

use Rattle.std.proofs.Common.{arith}
use Rattle.cid.proofs.Groups.{value_in_table}
use Rattle.cid.proofs.base32.value.Goals as goal

pub returns : goal.returns
returns c = value_in_table c.args.letter c.from.result c.from.ensures (omega arith)

use Rattle.std.proofs.Common.{arith}
use Rattle.cid.proofs.Groups.{bits_are_eight}
use Rattle.cid.proofs.base32.joined.Goals as goal

pub returns : goal.returns
returns c = bits_are_eight c.args.values.now c.requires (omega arith) c.to_be_bytes.result _ c.to_be_bytes.ensures (omega arith)

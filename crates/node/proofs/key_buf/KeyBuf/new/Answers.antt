use Rattle.std.proofs.Common.{rules}
use Rattle.node.proofs.key_buf.KeyBuf.new.Goals as goal

pub returns : goal.returns
returns g c = search rules

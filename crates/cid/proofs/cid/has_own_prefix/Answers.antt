use Rattle.std.proofs.Common.{rules}
use Rattle.cid.proofs.cid.has_own_prefix.Goals as goal

pub returns-in-1 : goal.returns-in-1
returns-in-1 c = search rules

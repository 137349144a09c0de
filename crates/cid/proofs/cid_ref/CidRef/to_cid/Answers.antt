use Rattle.std.proofs.Common.{rules}
use Rattle.cid.proofs.cid_ref.CidRef.to_cid.Goals as goal

pub returns : goal.returns
returns c = search rules

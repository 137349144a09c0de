use Rattle.store.proofs.Bits.{members_none}
use Rattle.store.proofs.cores.Cores.none.Goals as goal

pub returns : goal.returns
returns c = members_none

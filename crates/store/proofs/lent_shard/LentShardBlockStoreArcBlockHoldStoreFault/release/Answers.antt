use Rattle.std.proofs.Common.{rules}
use Rattle.store.proofs.lent_shard.LentShardBlockStoreArcBlockHoldStoreFault.release.Goals as goal

pub returns-clause-counted : goal.returns-clause-counted
returns-clause-counted g c = search rules

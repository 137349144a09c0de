use Rattle.std.proofs.Common.{rules}
use Rattle.store.proofs.locked_shards.LockedShardsBlockStoreArcBlockHoldStoreFault.acquire.Goals as goal

pub returns-then-matches : goal.returns-then-matches
returns-then-matches g c = search rules

pub returns-else-matches : goal.returns-else-matches
returns-else-matches g c = search rules

use Rattle.std.proofs.Common.{rules}
use Rattle.store.proofs.shards.shard_number.Goals as goal

pub returns-clause-value : goal.returns-clause-value
returns-clause-value c = search rules

use Rattle.std.proofs.Common.{rules}
use Rattle.store.proofs.shard.entries.EntriesIterator.next.Goals as goal

pub returns-clause-steps : goal.returns-clause-steps
returns-clause-steps g c = search rules

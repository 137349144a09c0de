-- What a host has behind its locks fits in memory.
use Rattle.std.specs.Borrow.{RattleType, Array}
use Rattle.std.specs.Mem.{FitsInMemory}
use Rattle.std.specs.declared.alloc.Allocator as alloc
use Rattle.cid.specs.declared.digest.Digest as digest
use Rattle.repo.specs.contracts.cores.Core as core
use Rattle.store.specs.contracts.shard.Shard as shard

-- a core
abbrev pub CoreFits : (D B A : RattleType) → digest.Ghosts D.Denot → alloc.Ghosts A.Denot → Type 0
CoreFits D B A d a = FitsInMemory (core.the_row D B A d a)

-- the tables of the sixteen shards
abbrev pub AreTablesFit : (D A : RattleType) → digest.Ghosts D.Denot → alloc.Ghosts A.Denot → Type 0
AreTablesFit D A d a = FitsInMemory (Array (shard.the_row D A d a) 16)

-- The sixteen shards of a store that one call has for itself (how many blocks a shard may have is a
-- choice of this project).
use Rattle.std.specs.Prelude.{ℕ, List}
use Rattle.store.specs.Shards.{WasFull as WasFullAt}

-- how many blocks a shard may have
abbrev pub most_blocks : ℕ
most_blocks = 1048576

-- One of them was full: so many blocks stood in it, each under its own CID, which is one of this shard,
-- and each held.
abbrev pub WasFull : (List ℕ → List ℕ) → Type 0
WasFull digest = WasFullAt digest most_blocks

-- The sixteen shards of a store that nobody shares.
use Rattle.std.specs.Prelude.{◌≡◌, ◌<◌, ◌≤◌, ℕ, List, Some, slice_index_or, slice_set}
use Rattle.std.specs.Prelude.{Result, OnOk, OnErr}
use Rattle.std.specs.Arc.{arc_value}
use Rattle.std.specs.FinMap as map
use Rattle.std.specs.FinSet as set
use Rattle.std.specs.Ordering.{nat_cmp}
use Rattle.std.specs.declared.sync.Arc.{Arc}
use Rattle.spec.specs.Cid.{cid as cid_of}
use Rattle.store.specs.declared.fault.StoreFault.{StoreFault}
use Rattle.store.specs.Keys.{Key, state_after}
use Rattle.store.specs.Table.{Table, Held, cores_at, empty_table, entered, entry_at, left, shard_of, IsLawful}

abbrev pub no_table : Table
no_table = empty_table 0 (state_after 0 0)

-- the table at a place among these
abbrev pub table_at : List Table → ℕ → Table
table_at tables place = slice_index_or tables place no_table

-- the cores that it has under a CID
abbrev pub cores_in : List Table → ℕ → List ℕ → set.FinSet nat_cmp
cores_in tables place c = cores_at (table_at tables place) c

-- all sixteen are without blocks, and each may have so many
abbrev pub AreEmpty : ℕ → List Table → Type 0
AreEmpty limit tables = (place : ℕ) → place < 16
    → table_at tables place ≡ empty_table limit (table_at tables place).key

-- all sixteen hash CIDs under this key
abbrev pub AreUnder : Key → List Table → Type 0
AreUnder key tables = (place : ℕ) → place < 16 → (table_at tables place).key ≡ key

-- a block stands in the shard of its CID
abbrev pub HasOwnBlocks : ℕ → Table → Type 0
HasOwnBlocks place t = (cid : List ℕ) (e : Held) → entry_at t cid ≡ Some e → shard_of cid ≡ place

-- each of the sixteen has the blocks of its number, and this limit
pub record AreShardsOf (limit : ℕ) (tables : List Table) : Type 0 where
  pub limits : (place : ℕ) → place < 16 → (table_at tables place).limit ≡ limit
  pub own : (place : ℕ) → HasOwnBlocks place (table_at tables place)

-- A shard was full: as many blocks stood in it as it may have, each under its own CID, which is one of
-- this shard, and each held.
pub record HasFullShard (digest : List ℕ → List ℕ) (limit : ℕ) : Type 0 where
  pub place : ℕ
  pub shard : Table
  pub lawful : IsLawful digest shard
  pub own : HasOwnBlocks place shard
  pub full : limit ≤ map.len shard.entries

-- there was such a shard
abbrev pub WasFull : (List ℕ → List ℕ) → ℕ → Type 0
WasFull digest limit = ∥ HasFullShard digest limit ∥₁

-- the shard of a block of these bytes
abbrev pub own_shard : (List ℕ → List ℕ) → List Table → List ℕ → Table
own_shard digest tables bytes = table_at tables (shard_of (cid_of digest bytes))

-- the shards with a core entered for such a block in its own; all others are as they were
abbrev pub entered_in : (List ℕ → List ℕ) → List Table → List ℕ → ℕ → List Table
entered_in digest tables bytes core = slice_set tables (shard_of (cid_of digest bytes))
    (entered (own_shard digest tables bytes) (cid_of digest bytes) bytes core)

-- the shards after a hold was given back to that of its block; all others are as they were
abbrev pub left_in : {A : Type 0} → (List ℕ → List ℕ) → List Table → Arc (List ℕ) A × ℕ → List Table
left_in digest tables h = slice_set tables (shard_of (cid_of digest (arc_value h.0)))
    (left (own_shard digest tables (arc_value h.0)) (cid_of digest (arc_value h.0)) h.1)

-- what an acquire makes of these shards: the core is entered, or all is as before
pub record IsMadeIn {D A : Type 0} (digest : List ℕ → List ℕ) (bytes : List ℕ) (core : ℕ)
    (old : List Table) (result : Result (Arc (List ℕ) A × ℕ) (StoreFault D A)) (new : List Table)
    : Type 0 where
  pub entered : OnOk result (new ≡ entered_in digest old bytes core)
  pub unchanged : OnErr result (new ≡ old)

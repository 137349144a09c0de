-- Where a shard keeps which cores hold a block: one as its number, in the entry, and several as a set, in a slab beside the
-- table.
use Rattle.std.specs.Prelude.{◌≡◌, ◌≢◌, ℕ, ◌<◌, ◌≤◌, List, map as each, nat_eq, slice_index_or, Option, None, Some, IsSomeAnd, ⊤}
use Rattle.std.specs.Ordering.{nat_cmp}
use Rattle.std.specs.Cmp.Lexicographic.{slice_cmp, pointwise}
use Rattle.std.specs.Map.{lookup}
use Rattle.std.specs.FinMap as map
use Rattle.std.specs.FinSet as set
use Rattle.slab.specs.Slab.{Slab, get, ContainsKey}
use Rattle.store.specs.Cores.{IsSetOfMore}
use Rattle.store.specs.Keys.{Key}
use Rattle.store.specs.Table.{Held, IsLawful, table_view}
use Rattle.store.specs.declared.shard.entry.Holders.{Holders}
use Rattle.store.specs.declared.shard.entry.Holders.TheVariants.{One, Several}

-- sets of cores, each under its key
abbrev pub Sets : Type 0
Sets = Slab (set.FinSet nat_cmp)

-- what stands in the places of a slab of them
abbrev pub Slots : Type 0
Slots = List (Option (set.FinSet nat_cmp))

abbrev pub set_or_none : Option (set.FinSet nat_cmp) → set.FinSet nat_cmp
set_or_none None = set.empty
set_or_none (Some s) = s

-- the set under a key, without cores where none is there
abbrev pub set_at : Slots → ℕ → set.FinSet nat_cmp
set_at slots key = set_or_none (slice_index_or slots key None)

-- the cores that hold a block
abbrev pub cores_in : Slots → Holders → set.FinSet nat_cmp
cores_in slots (One core) = set.insert set.empty core
cores_in slots (Several key) = set_at slots key

-- the key of their set, where they have one
abbrev pub key_of : Holders → Option ℕ
key_of (One core) = None
key_of (Several key) = Some key

-- one core's number is below 1,024
abbrev pub IsNumbered : Holders → Type 0
IsNumbered (One core) = core < 1024
IsNumbered (Several key) = ⊤

-- a set of two cores or more is under the key
abbrev pub HasMore : Sets → ℕ → Type 0
HasMore sets key = IsSomeAnd (get sets key) IsSetOfMore

-- the set of a block that has one is there
abbrev pub HasItsSet : Sets → Holders → Type 0
HasItsSet sets holders = (key : ℕ) → key_of holders ≡ Some key → HasMore sets key

-- what a change of one block's cores makes of the sets, where theirs had one key before, or none, and has one after: only these
-- keys change, what has gone is given back, and what has come was free
pub record IsMoved (old new : Sets) (before after : Option ℕ) : Type 0 where
  pub others : (key : ℕ) → before ≢ Some key → after ≢ Some key → get new key ≡ get old key
  pub ended : (key : ℕ) → before ≡ Some key → after ≢ Some key → get new key ≡ None
  pub fresh : (key : ℕ) → after ≡ Some key → before ≢ Some key → get old key ≡ None
  pub there : (key : ℕ) → after ≡ Some key → HasMore new key
  pub capacity : new.capacity ≡ old.capacity

-- a core has left the set under a key, and more are left
pub record StaysAt (old new : Sets) (key core : ℕ) : Type 0 where
  pub left : set_at new.slots key ≡ set.remove (set_at old.slots key) core
  pub moved : IsMoved old new (Some key) (Some key)

-- a core has left it, and the last one has no set
pub record EndsAt (old new : Sets) (key core last : ℕ) : Type 0 where
  pub small : last < 1024
  pub left : set.remove (set_at old.slots key) core ≡ set.insert set.empty last
  pub moved : IsMoved old new (Some key) None

-- ---- the entries

-- the bytes of a block, and which cores hold it
abbrev pub Stored : Type 0
Stored = List ℕ × Holders

-- the same with the cores themselves
abbrev pub held_of : Slots → Stored → Held
held_of slots e = (e.0, cores_in slots e.1)

abbrev pub held_in : Slots → List (List ℕ × Stored) → List (List ℕ × Held)
held_in slots es = each (λ e. (e.0, held_of slots e.1)) es

abbrev pub key_of_entry : Option Stored → Option ℕ
key_of_entry None = None
key_of_entry (Some e) = key_of e.1

-- the key of the set under a CID
abbrev pub key_at : List (List ℕ × Stored) → List ℕ → Option ℕ
key_at es cid = key_of_entry (lookup (pointwise nat_eq cid) es)

-- Each entry that needs a set has its own, each set has its entry, and there is room for a set for every entry.
pub record HaveTheirSets (es : List (List ℕ × Stored)) (sets : Sets) : Type 0 where
  pub there : (cid : List ℕ) (key : ℕ) → key_at es cid ≡ Some key → HasMore sets key
  pub apart : (cid other : List ℕ) (key : ℕ) → key_at es cid ≡ Some key → key_at es other ≡ Some key → cid ≡ other
  pub used : (key : ℕ) → ContainsKey sets key → (cid : List ℕ) × (key_at es cid ≡ Some key)
  pub room : map.len (map.from_entries {R = slice_cmp nat_cmp} es) ≤ sets.capacity

-- what a shard keeps of its entries and sets, whatever its key
pub record IsSound (digest : List ℕ → List ℕ) (es : List (List ℕ × Stored)) (sets : Sets) (limit : ℕ) : Type 0 where
  pub lawful : (key : Key) → IsLawful digest (table_view (held_in sets.slots es) limit key)
  pub placed : HaveTheirSets es sets

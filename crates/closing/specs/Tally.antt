-- The tally of blocks over cores, and the counts in a store's tables.
use Rattle.std.specs.Prelude.{◌≡◌, ◌≢◌, ◌<◌, ℕ, suc, ◌==◌, ◌&&◌, Bool, true, false, List, [], ◌∷◌, ◌++◌}
use Rattle.std.specs.Prelude.{length, count_by, All, slice_index_or}
use Rattle.std.specs.List.{list_any}
use Rattle.std.specs.Str.{bytes_eq}
use Rattle.std.specs.Ordering.{nat_cmp}
use Rattle.std.specs.FinSet as set
use Rattle.spec.specs.Cid.{cid as cid_of}
use Rattle.spec.specs.States.{State, state_blocks}
use Rattle.store.specs.Table.{Table, cores_at, shard_of}
use Rattle.store.specs.Shards.{cores_in, no_table}

-- whether one of these blocks has this CID
abbrev pub has_in : (List ℕ → List ℕ) → List (List ℕ) → List ℕ → Bool
has_in digest bs cid = list_any (λ b. bytes_eq (cid_of digest b) cid) bs

-- whether a core of this state has a block with this CID
unfoldable pub has : (List ℕ → List ℕ) → ℕ → State → List ℕ → Bool
has digest bits s cid = has_in digest (state_blocks digest bits s) cid

-- how many of the cores have a block with this CID
abbrev pub tally : (List ℕ → List ℕ) → ℕ → List State → List ℕ → ℕ
tally digest bits cores cid = count_by (λ s. has digest bits s cid) cores

-- ---- the tables of the shards

-- the cores that are entered for a CID in the table of its shard, none where it has no entry
abbrev pub entered : List Table → List ℕ → set.FinSet nat_cmp
entered tables cid = cores_in tables (shard_of cid) cid

-- a CID's count: the size of its entry's set, 0 without an entry
abbrev pub count : List Table → List ℕ → ℕ
count tables cid = set.len (entered tables cid)

-- ---- cores and tables that agree

-- a core of this number has a block with this CID
abbrev pub have : (List ℕ → List ℕ) → ℕ → List State → List ℕ → ℕ → Bool
have digest bits cores cid number =
    list_any (λ s. (s.me == number) && has digest bits s cid) cores

-- the cores have the numbers from n on
abbrev pub NumberedFrom : ℕ → List State → Type 0
NumberedFrom n [] = Unit {0}
NumberedFrom n (s ∷ ss) = (s.me ≡ n) × NumberedFrom (suc n) ss

-- each core's number is its place, and the cores that are entered for a CID are those that have it
pub record IsEven (digest : List ℕ → List ℕ) (bits : ℕ) (cores : List State) (tables : List Table) : Type 0 where
  pub numbered : NumberedFrom 0 cores
  pub same : (cid : List ℕ) (number : ℕ)
      → set.contains (entered tables cid) number ≡ have digest bits cores cid number

-- some core's number isn't its place
abbrev pub IsMisnumbered : List State → Type 0
IsMisnumbered cores = (before : List State) × (s : State) × (after : List State)
    × (cores ≡ before ++ s ∷ after) × (s.me ≢ length before)

-- the cores that are entered for some CID aren't those that have it
abbrev pub IsMiscounted : (List ℕ → List ℕ) → ℕ → List State → List Table → Type 0
IsMiscounted digest bits cores tables = (cid : List ℕ) × (number : ℕ)
    × (set.contains (entered tables cid) number ≢ have digest bits cores cid number)

-- ---- what the parts of the comparison say

-- for each of its CIDs a core is entered
abbrev pub IsEntered : (List ℕ → List ℕ) → ℕ → State → List Table → Type 0
IsEntered digest bits s tables = (cid : List ℕ) → has digest bits s cid ≡ true
    → set.contains (entered tables cid) s.me ≡ true

-- a core has a CID for which it isn't entered
abbrev pub IsMissed : (List ℕ → List ℕ) → ℕ → State → List Table → Type 0
IsMissed digest bits s tables = (cid : List ℕ) × (has digest bits s cid ≡ true)
    × (set.contains (entered tables cid) s.me ≡ false)

-- each of the numbers is that of a core that has the CID
abbrev pub AllHave : (List ℕ → List ℕ) → ℕ → List State → List ℕ → set.FinSet nat_cmp → Type 0
AllHave digest bits cores cid numbers = (number : ℕ) → set.contains numbers number ≡ true
    → have digest bits cores cid number ≡ true

-- one of the numbers is that of no core that has the CID
abbrev pub IsWithout : (List ℕ → List ℕ) → ℕ → List State → List ℕ → set.FinSet nat_cmp → Type 0
IsWithout digest bits cores cid numbers = (number : ℕ) × (set.contains numbers number ≡ true)
    × (have digest bits cores cid number ≡ false)

-- in a shard's table, of each CID of this shard: the cores that are entered have it
abbrev pub AreHad : (List ℕ → List ℕ) → ℕ → List State → ℕ → Table → Type 0
AreHad digest bits cores shard table = (cid : List ℕ) → shard_of cid ≡ shard
    → AllHave digest bits cores cid (cores_at table cid)

-- of some CID of this shard a core is entered that doesn't have it
abbrev pub AreWithout : (List ℕ → List ℕ) → ℕ → List State → ℕ → Table → Type 0
AreWithout digest bits cores shard table = (cid : List ℕ) × (shard_of cid ≡ shard)
    × IsWithout digest bits cores cid (cores_at table cid)

-- each core is entered for each of its CIDs
abbrev pub AreEntered : (List ℕ → List ℕ) → ℕ → List State → List Table → Type 0
AreEntered digest bits cores tables = All (λ s. IsEntered digest bits s tables) cores

-- in the tables of all sixteen shards, the cores that are entered have the CID
abbrev pub AreAllHad : (List ℕ → List ℕ) → ℕ → List State → List Table → Type 0
AreAllHad digest bits cores tables = (shard : ℕ) → shard < 16
    → AreHad digest bits cores shard (slice_index_or tables shard no_table)

-- What is kept, as the map of blocks that the code has.
use Rattle.std.specs.Prelude.{◌≡◌, ◌<◌, ◌-◌, ℕ, zero, suc, List, [], ◌∷◌, cond, Option, None, Some, option_map}
use Rattle.std.specs.Prelude.{length, map as each}
use Rattle.std.specs.Arc.{arc_value}
use Rattle.std.specs.Ordering.{nat_cmp}
use Rattle.std.specs.Cmp.Lexicographic.{slice_cmp}
use Rattle.std.specs.BTreeMap.{is_at}
use Rattle.std.specs.Map.{lookup}
use Rattle.std.specs.FinMap as map
use Rattle.std.specs.declared.sync.Arc.{Arc}
use Rattle.spec.specs.Cid.{cid as cid_of}
use Rattle.kept.specs.Counts.{Counts, Keeping, with_count, bytes_at, count_at}
use Rattle.kept.specs.declared.kept_use.Use.{Use}

-- the kept blocks by their CIDs
abbrev pub Uses : Type 0 → Type 0 → Type 0
Uses D A = map.FinMap (slice_cmp nat_cmp) (Use D A)

-- what is kept under a CID
abbrev pub at : {D A : Type 0} → Uses D A → List ℕ → Option (Use D A)
at m q = map.get m q

-- the use with one more, and with one less
abbrev pub raised_use : {D A : Type 0} → Use D A → Use D A
raised_use u = record u { uses = suc u.uses }

abbrev pub lowered_use : {D A : Type 0} → Use D A → Use D A
lowered_use u = record u { uses = u.uses - 1 }

-- without the entry where it has no use
abbrev pub if_used : {D A : Type 0} → Use D A → ℕ → Option (Use D A)
if_used u zero = None
if_used u (suc n) = Some u

-- what is left of an entry with one use less
abbrev pub lowered_in : {D A : Type 0} → Option (Use D A) → Option (Use D A)
lowered_in None = None
lowered_in (Some u) = if_used (lowered_use u) (u.uses - 1)

-- g has what f has, but o under k
abbrev pub Updated : {D A : Type 0} → (List ℕ → Option (Use D A)) → (List ℕ → Option (Use D A)) → List ℕ
    → Option (Use D A) → Type 0
Updated f g k o = (q : List ℕ) → g q ≡ cond (is_at (slice_cmp nat_cmp k) q) o (f q)

-- n has what m has, but what F makes of the entry under k
abbrev pub IsChanged : {D A : Type 0} → (Option (Use D A) → Option (Use D A)) → Uses D A → Uses D A → List ℕ → Type 0
IsChanged F m n k = Updated (at m) (at n) k (F (at m k))

-- what a list of entries has under a CID
abbrev pub listed_at : {D A : Type 0} → List (List ℕ × Use D A) → List ℕ → Option (Use D A)
listed_at es q = lookup (is_at (slice_cmp nat_cmp q)) es

-- one of the entries is taken out
pub record IsTaken {D A : Type 0} (es : List (List ℕ × Use D A)) (e : List ℕ × Use D A) (fs : List (List ℕ × Use D A)) : Type 0 where
  pub here : listed_at es e.0 ≡ Some e.1
  pub gone : Updated (listed_at es) (listed_at fs) e.0 None
  pub fewer : length fs < length es

-- two blocks have one CID
abbrev pub HaveOneCid : (List ℕ → List ℕ) → List ℕ → List ℕ → Type 0
HaveOneCid digest a b = cid_of digest a ≡ cid_of digest b

-- the counts of the blocks, as contracts see them
abbrev pub counted_in : {D A : Type 0} → List (List ℕ × Use D A) → Counts
counted_in [] = map.empty
counted_in (e ∷ es) = with_count (counted_in es) e.0 (arc_value e.1.hold.0) e.1.uses

abbrev pub counted : {D A : Type 0} → Uses D A → Counts
counted m = counted_in (map.entries m)

abbrev pub keeping_of : {D A : Type 0} → ℕ → Uses D A → Keeping
keeping_of me m = record { me = me; uses = counted m }

-- the bytes of the blocks
abbrev pub used_blocks : {D A : Type 0} → List (List ℕ × Use D A) → List (List ℕ)
used_blocks es = each (λ e. arc_value e.1.hold.0) es

-- the block lent for a CID
abbrev pub lent : {D A : Type 0} → Uses D A → List ℕ → Option (Arc (List ℕ) A)
lent m c = option_map (λ u. u.hold.0) (at m c)

-- each block that these counts have is lent
abbrev pub HasAll : {D A : Type 0} → Uses D A → Counts → Type 0
HasAll m counts = (c bytes : List ℕ) → bytes_at counts c ≡ Some bytes → option_map arc_value (lent m c) ≡ Some bytes

-- each block that is lent is used as often as these counts say of its CID
abbrev pub HasUses : {D A : Type 0} → (List ℕ → List ℕ) → Uses D A → Counts → Type 0
HasUses digest m counts =
    (c : List ℕ) (u : Use _ _) → at m c ≡ Some u → u.uses ≡ count_at counts (cid_of digest (arc_value u.hold.0))

-- a use stands under the CID of its block, its hold is this core's, and it is used
pub record IsUse {D A : Type 0} (digest : List ℕ → List ℕ) (me : ℕ) (c : List ℕ) (u : Use D A) : Type 0 where
  pub named : c ≡ cid_of digest (arc_value u.hold.0)
  pub mine : u.hold.1 ≡ me
  pub used : 0 < u.uses

abbrev pub AreUses : {D A : Type 0} → (List ℕ → List ℕ) → ℕ → (List ℕ → Option (Use D A)) → Type 0
AreUses digest me f = (q : List ℕ) (u : Use _ _) → f q ≡ Some u → IsUse digest me q u

-- each use stands under the CID of its block
abbrev pub AreNamed : {D A : Type 0} → (List ℕ → List ℕ) → Uses D A → Type 0
AreNamed digest m = (c : List ℕ) (u : Use _ _) → at m c ≡ Some u → c ≡ cid_of digest (arc_value u.hold.0)

-- what a core's map always is: its number is below 1,024, and each entry is one of its uses
pub record IsKept {D A : Type 0} (digest : List ℕ → List ℕ) (me : ℕ) (m : Uses D A) : Type 0 where
  pub small : me < 1024
  pub entries : AreUses digest me (at m)

abbrev pub uses_of : {D A : Type 0} → Option (Use D A) → ℕ
uses_of None = 0
uses_of (Some u) = u.uses

-- there is one use more of a block, with no other under its CID
pub record IsRaised {D A : Type 0} (digest : List ℕ → List ℕ) (me : ℕ) (f g : List ℕ → Option (Use D A)) (bytes : List ℕ) : Type 0 where
  pub u : Use D A
  pub bytes_are : arc_value u.hold.0 ≡ bytes
  pub mine : u.hold.1 ≡ me
  pub uses_are : u.uses ≡ suc (uses_of (f (cid_of digest bytes)))
  pub no_other : (v : Use D A) → f (cid_of digest bytes) ≡ Some v → arc_value v.hold.0 ≡ bytes
  pub updated : Updated f g (cid_of digest bytes) (Some u)

abbrev pub IsRaisedIn : {D A : Type 0} → (List ℕ → List ℕ) → ℕ → Uses D A → Uses D A → List ℕ → Type 0
IsRaisedIn digest me m n bytes = IsRaised digest me (at m) (at n) bytes

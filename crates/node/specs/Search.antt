-- A key that is sought among entries: the gap before its place, and an entry's key against it.
use Rattle.std.specs.Prelude.{ℕ, zero, suc, ◌+◌, List, [], ◌∷◌, drop, Option}
use Rattle.std.specs.Ordering.{nat_cmp}
use Rattle.std.specs.Cmp.Lexicographic.{slice_cmp}
use Rattle.std.specs.declared.cmp.Ordering.{Ordering}
use Rattle.std.specs.declared.cmp.Ordering.TheVariants.{Less, Greater}
use Rattle.spec.specs.NodeFormat.{Entry, common}
use Rattle.spec.specs.Proof.{by_order}
use Rattle.node.specs.Contents.{Contents}
use Rattle.node.specs.Rows.{Row}

-- the link in the gap before the first entry that isn't below the key, where this one stands before all
abbrev pub gap_before : List ℕ → Option (List ℕ) → List Entry → Option (List ℕ)
gap_before key gap [] = gap
gap_before key gap (e ∷ es) = by_order (slice_cmp nat_cmp e.key key) (gap_before key e.tree es) gap gap

-- an entry before others, with the link that stands before these
abbrev pub before : Option (List ℕ) → Entry → Contents → Contents
before gap e more =
    record { left = gap; entries = record { key = e.key; value = e.value; tree = more.left } ∷ more.entries }

-- ---- by the number of entries before a gap

-- the link in the gap
abbrev pub gap_at : ℕ → Option (List ℕ) → List Entry → Option (List ℕ)
gap_at zero gap es = gap
gap_at (suc n) gap [] = gap
gap_at (suc n) gap (e ∷ es) = gap_at n e.tree es

-- and another one in its place
abbrev pub relink_at : ℕ → Option (List ℕ) → List Entry → Option (List ℕ) → Contents
relink_at zero gap es new = record { left = new; entries = es }
relink_at (suc n) gap [] new = record { left = gap; entries = [] }
relink_at (suc n) gap (e ∷ es) new = before gap e (relink_at n e.tree es new)

-- ---- by the rows

-- how the row's key compares with the key, of which the lesser key before has so many bytes
abbrev pub order_after : ℕ → List ℕ → Row → Ordering
order_after same key r = by_order (nat_cmp r.prefix same) Greater (slice_cmp nat_cmp r.suffix (drop same key)) Less

-- how many bytes they have in common
abbrev pub common_after : ℕ → List ℕ → Row → ℕ
common_after same key r = by_order (nat_cmp r.prefix same) r.prefix (same + common r.suffix (drop same key)) same

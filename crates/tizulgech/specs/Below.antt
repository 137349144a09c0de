-- Which nodes below a node are needed to change keys.
use Rattle.std.specs.Prelude.{◌≡◌, ℕ, zero, suc, ◌+◌, ◌-◌, ◌++◌, Bool, true, false, not, List, [], ◌∷◌, Option, Some, None, Result, Ok, Err, length, drop, if◌then◌else◌}
use Rattle.std.specs.Cmp.Lexicographic.{slice_cmp}
use Rattle.std.specs.Ordering.{nat_cmp}
use Rattle.std.specs.declared.cmp.Ordering.{Ordering}
use Rattle.std.specs.declared.cmp.Ordering.TheVariants.{Less, Equal, Greater}
use Rattle.spec.specs.NodeFormat.{Entry, Shape, LastLink, MoreLinks}
use Rattle.edit_laws.specs.Sources.{shape_from}
use Rattle.batch_laws.specs.Batch.{Change}
use Rattle.buffers.specs.Answers.{IsHanded, number_bytes}

-- a change by which its key goes, or where `goes` is false one by which it doesn't
abbrev pub is_such : Bool → Option (List ℕ) → Bool
is_such goes None = goes
is_such goes (Some v) = not goes

abbrev pub at_or_before : Ordering → Bool → Bool
at_or_before Less such = true
at_or_before Equal such = such
at_or_before Greater such = false

-- its key stands before this one, or it is such a change of this one
abbrev pub goes_first : Bool → List ℕ → Change → Bool
goes_first goes key c = at_or_before (slice_cmp nat_cmp c.0 key) (is_such goes c.1)

-- how many at the front are so
abbrev pub front_of : Bool → List ℕ → List Change → ℕ
front_of goes key [] = 0
front_of goes key (c ∷ cs) = if goes_first goes key c then suc (front_of goes key cs) else 0

-- a link that changes go below, with the number of the first of them and how many they are
abbrev pub link_bytes : Option (List ℕ) → ℕ → ℕ → List ℕ
link_bytes None first count = []
link_bytes (Some c) first zero = []
link_bytes (Some c) first (suc n) = c ++ (number_bytes first ++ number_bytes (suc n))

-- From a place among the changes on: those before the next pair's key go below the link before it, and with them one by which this
-- key goes. Behind the pair come those that are after its key, and again that one.
abbrev pub below_bytes : Shape → ℕ → List Change → List ℕ
below_bytes (LastLink l) place cs = link_bytes l place (length cs - place)
below_bytes (MoreLinks l e r) place cs =
    link_bytes l place (front_of true e.0 (drop place cs)) ++ below_bytes r (place + front_of false e.0 (drop place cs)) cs

-- 30 for bytes that are no node, 252 for what are no changes
abbrev pub AreBelow : {E : Type 0} → ℕ → Result (Option (List ℕ) × List Entry) E → Option (List Change) → List ℕ → List ℕ → ℕ → Type 0
AreBelow code (Err e) cs before room size = code ≡ 30
AreBelow code (Ok n) None before room size = code ≡ 252
AreBelow code (Ok n) (Some cs) before room size = IsHanded code (below_bytes (shape_from n.0 n.1) 0 cs) before room size

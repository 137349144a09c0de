-- The place at which a CID stands first in a list.
use Rattle.std.specs.Prelude.{◌≡◌, ℕ, zero, suc, cond, List, [], ◌∷◌, Option, Some, None, option_map}
use Rattle.std.specs.BTreeMap.{BTreeMap, get}
use Rattle.std.specs.Cmp.Lexicographic.{slice_cmp}
use Rattle.std.specs.Ordering.{nat_cmp}
use Rattle.std.specs.Str.{bytes_eq}
use Rattle.edit.specs.declared.differences.Places.{Places}
use Rattle.edit.specs.declared.differences.Places.TheVariants.{Few, Many}

abbrev pub first_place : List ℕ → List (List ℕ) → Option ℕ
first_place c [] = None
first_place c (x ∷ xs) = cond (bytes_eq x c) (Some zero) (option_map suc (first_place c xs))

-- a map has the first place of each CID of a list
abbrev pub HasFirsts : List (List ℕ) → BTreeMap (List ℕ) ℕ → Type 0
HasFirsts cids places = (c : List ℕ) → get (slice_cmp nat_cmp) places c ≡ first_place c cids

-- these are the places of a list: the list itself, or such a map
abbrev pub HasPlaces : {A : Type 0} → List (List ℕ) → Places A → Type 0
HasPlaces cids (Few all) = all.items ≡ cids
HasPlaces cids (Many places) = HasFirsts cids places

-- the place that they have for a CID
abbrev pub place_in : {A : Type 0} → Places A → List ℕ → Option ℕ
place_in (Few all) c = first_place c all.items
place_in (Many places) c = get (slice_cmp nat_cmp) places c

-- Blocks of which each CID is written once.
use Rattle.std.specs.Prelude.{◌≡◌, ◌≤◌, ◌&&◌, ◌||◌, ◌-◌, ◌^◌, ◌++◌, ℕ, List, [], Bool, false, not, min, filter, if◌then◌else◌}
use Rattle.std.specs.List.{list_any, flat_map}
use Rattle.std.specs.Str.{bytes_eq}
use Rattle.spec.specs.Cid.{cid}
use Rattle.spec.specs.Blocks.{firsts}
use Rattle.spec.specs.Car.{section}
use Rattle.edit_laws.specs.Uses.{uses}

-- whether a CID is among these
abbrev pub has : List (List ℕ) → List ℕ → Bool
has cids c = list_any (bytes_eq c) cids

-- there is this one more
abbrev pub HasMore : List (List ℕ) → List ℕ → List (List ℕ) → Type 0
HasMore old c new = (d : List ℕ) → has new d ≡ bytes_eq c d || has old d

-- of some blocks those whose CID comes first, also after these CIDs
abbrev pub fresh : (List ℕ → List ℕ) → List (List ℕ) → List (List ℕ) → List (List ℕ)
fresh digest cids bs = filter (λ b. not (has cids (cid digest b))) (firsts (cid digest) bs)

-- the sections of these
abbrev pub sections : (List ℕ → List ℕ) → List (List ℕ) → List (List ℕ) → List ℕ
sections digest cids bs = flat_map (section digest) (fresh digest cids bs)

-- the section of a block whose CID isn't among these
abbrev pub section_once : (List ℕ → List ℕ) → List (List ℕ) → List ℕ → List ℕ
section_once digest cids b = if has cids (cid digest b) then [] else section digest b

-- ---- where it is known of some CIDs that they stand once

-- each CID that can't repeat is that of at most one of these blocks
abbrev pub AreSingle : (List ℕ → List ℕ) → (List ℕ → Bool) → List (List ℕ) → Type 0
AreSingle digest may_repeat bs = (c : List ℕ) → may_repeat c ≡ false → uses digest c bs ≤ 1

-- each of these CIDs may repeat
abbrev pub AreRepeats : (List ℕ → Bool) → List (List ℕ) → Type 0
AreRepeats may_repeat cids = (c : List ℕ) → may_repeat c ≡ false → has cids c ≡ false

-- there is this one more if it may repeat
abbrev pub HasNoted : Bool → List (List ℕ) → List ℕ → List (List ℕ) → Type 0
HasNoted may_repeat old c new = (d : List ℕ) → has new d ≡ (may_repeat && bytes_eq c d) || has old d

-- a CID that can't repeat isn't among these
abbrev pub IsNewOr : Bool → List (List ℕ) → List ℕ → Type 0
IsNewOr may_repeat cids c = may_repeat ≡ false → has cids c ≡ false

-- after the sections of the found blocks, those of whatever blocks come are theirs after the new CIDs
abbrev pub GoesOn : (List ℕ → List ℕ) → (List ℕ → Bool) → List (List ℕ) → List (List ℕ) → List (List ℕ) → Type 0
GoesOn digest may_repeat old found new =
    (bs : List (List ℕ)) → AreSingle digest may_repeat (found ++ bs)
    → sections digest old (found ++ bs) ≡ sections digest old found ++ sections digest new bs

-- a number as far as 64 bits go
abbrev pub capped : ℕ → ℕ
capped n = min n (2 ^ 64 - 1)

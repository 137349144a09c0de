-- A file in the making, in which each CID stands where it comes first.
use Rattle.std.specs.Prelude.{◌≡◌, ℕ, Bool, not, List, ◌∷◌, ◌++◌, filter}
use Rattle.std.specs.List.{flat_map, list_any}
use Rattle.std.specs.Str.{bytes_eq}
use Rattle.spec.specs.Cid.{cid}
use Rattle.spec.specs.Car.{section}
use Rattle.spec.specs.Blocks.{firsts}

-- whether a CID is among these
abbrev pub has : List (List ℕ) → List ℕ → Bool
has cids c = list_any (bytes_eq c) cids

-- the bytes so far, and the CIDs of the blocks that were put
pub record Written : Type 0 where
  pub bytes : List ℕ
  pub cids : List (List ℕ)

-- of some blocks those whose CID comes first, also after these CIDs
abbrev pub fresh : (List ℕ → List ℕ) → List (List ℕ) → List (List ℕ) → List (List ℕ)
fresh digest cids bs = filter (λ b. not (has cids (cid digest b))) (firsts (cid digest) bs)

-- the file, once these blocks are put as well
abbrev pub file_with : (List ℕ → List ℕ) → Written → List (List ℕ) → List ℕ
file_with digest w bs = w.bytes ++ flat_map (section digest) (fresh digest w.cids bs)

-- a block was put: whatever blocks follow, the file is the one that they and this block before them make
abbrev pub IsPut : (List ℕ → List ℕ) → List ℕ → Written → Written → Type 0
IsPut digest b old new = (bs : List (List ℕ)) → file_with digest new bs ≡ file_with digest old (b ∷ bs)

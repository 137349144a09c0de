-- Blocks in memory as a source.
use Rattle.std.specs.Prelude.{◌≡◌, ℕ, ◌-◌, ◌^◌, min, List, Option, find, option_and_then, slice_get}
use Rattle.std.specs.Arc.{arc_value}
use Rattle.std.specs.BTreeMap.{BTreeMap, get}
use Rattle.std.specs.Cmp.Lexicographic.{slice_cmp}
use Rattle.std.specs.Ordering.{nat_cmp}
use Rattle.std.specs.Str.{bytes_eq}
use Rattle.std.specs.declared.sync.Arc.{Arc}
use Rattle.spec.specs.Cid.{cid}

-- the blocks, and how often one was asked for
pub record Lending (T : Type 0) : Type 0 where
  pub blocks : List T
  pub asked : ℕ

-- the first of the blocks with a CID
abbrev pub first_of : {A : Type 0} → (List ℕ → List ℕ) → List (Arc (List ℕ) A) → List ℕ → Option (Arc (List ℕ) A)
first_of digest blocks c = find (λ b. bytes_eq (cid digest (arc_value b)) c) blocks

-- the map has the place of the first block of each CID, and the number is the count as far as it goes
pub record IsMap {A : Type 0} (digest : List ℕ → List ℕ) (blocks : List (Arc (List ℕ) A)) (places : BTreeMap (List ℕ) ℕ)
    (reads asked : ℕ) : Type 0 where
  pub placed : (c : List ℕ)
      → option_and_then (slice_get blocks) (get (slice_cmp nat_cmp) places c) ≡ first_of digest blocks c
  pub counted : reads ≡ min asked (2 ^ 64 - 1)

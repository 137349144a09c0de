-- Blocks that come, each alone under its CID: among those that come, and beside those that are kept.
use Rattle.std.specs.Prelude.{◌≡◌, ℕ, List, Contains, Option, IfSome}
use Rattle.std.specs.Arc.{arc_value}
use Rattle.std.specs.declared.sync.Arc.{Arc}
use Rattle.spec.specs.Cid.{cid as cid_of}
use Rattle.kept.specs.Counts.{Counts, HasNoOther}

-- the block that a source gives for the CID of a block, where it gives one, is the same
abbrev pub IsGivenSame : {A : Type 0} → (List ℕ → List ℕ) → (List ℕ → Option (Arc (List ℕ) A)) → List ℕ → Type 0
IsGivenSame digest gives b = IfSome (gives (cid_of digest b)) (λ x. arc_value x ≡ b)

-- so it is for each of some blocks, and no other block is kept under its CID
pub record AreAlone {A : Type 0} (digest : List ℕ → List ℕ) (gives : List ℕ → Option (Arc (List ℕ) A)) (m : Counts)
    (bs : List (List ℕ)) : Type 0 where
  pub same : (b : List ℕ) → Contains bs b → IsGivenSame digest gives b
  pub no_other : (b : List ℕ) → Contains bs b → HasNoOther digest m b

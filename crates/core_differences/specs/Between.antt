-- What two repositories differ by.
use Rattle.std.specs.Prelude.{ℕ, List, map}
use Rattle.std.specs.Arc.{arc_value}
use Rattle.spec.specs.Blocks.{ClashesWithNone, pairs}
use Rattle.spec.specs.States.{State, records, state_blocks}
use Rattle.difference.specs.Differences.{IsDifferenceOf}
use Rattle.difference.specs.Merged.{changes_told}
use Rattle.difference.specs.declared.outcome.Difference.{Difference}

-- no block of the one repository has the CID of another block of the other
abbrev pub AreApart : (List ℕ → List ℕ) → ℕ → State → State → Type 0
AreApart digest bits old new = ClashesWithNone digest (state_blocks digest bits new) (state_blocks digest bits old)

-- the difference of the trees of two repositories
abbrev pub IsDifferenceBetween : {D A : Type 0} → (List ℕ → List ℕ) → ℕ → State → State → Difference D A → Type 0
IsDifferenceBetween digest bits old new d =
    IsDifferenceOf digest bits (pairs digest (records old)) (pairs digest (records new))
    (changes_told d.changes.items) (map arc_value d.come.items) d.go.items

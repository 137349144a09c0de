-- Blocks as an export finds them, each with a mark where it may stand more than once.
use Rattle.std.specs.Prelude.{◌≡◌, ℕ, List, Bool, nat_lt, Option, Some, option_map}
use Rattle.std.specs.Arc.{arc_value}
use Rattle.std.specs.Borrow.{Bor}
use Rattle.std.specs.declared.sync.Arc.{Arc}
use Rattle.spec.specs.Cid.{cid}
use Rattle.spec.specs.States.{State, state_blocks}
use Rattle.edit_laws.specs.Uses.{uses}
use Rattle.kept.specs.Uses.{Uses, at}
use Rattle.kept.specs.declared.kept_use.Use.{Use}
use Rattle.export.specs.declared.found.Found.{Found}

-- the bytes of a block that was found
abbrev pub bytes_found : {A : Type 0} → Found (Arc (List ℕ) A) → List ℕ
bytes_found f = arc_value f.lent

-- a block that is lent, as what is lent
abbrev pub seen_found : {T : Type 0} → Found (Bor T) → Found T
seen_found f = record { lent = f.lent.now; may_repeat = f.may_repeat }

-- a block that is kept: it may repeat where it has more uses than one
abbrev pub counted : {D A : Type 0} → Use D A → Found (Arc (List ℕ) A)
counted u = record { lent = u.hold.0; may_repeat = nat_lt 1 u.uses }

-- what is found among the blocks that are kept
abbrev pub found_in : {D A : Type 0} → Uses D A → List ℕ → Option (Found (Arc (List ℕ) A))
found_in m c = option_map counted (at m c)

-- the marks say of each CID whether it may repeat
abbrev pub AreMarked : {A : Type 0} → (List ℕ → List ℕ) → (List ℕ → Bool) → (List ℕ → Option (Found (Arc (List ℕ) A))) → Type 0
AreMarked digest may_repeat gives =
    (c : List ℕ) (f : Found _) → gives c ≡ Some f → f.may_repeat ≡ may_repeat (cid digest (bytes_found f))

-- the bytes of what is found there
abbrev pub bytes_in : {D A : Type 0} → Uses D A → List ℕ → Option (List ℕ)
bytes_in m c = option_map bytes_found (found_in m c)

-- whether a CID may stand more than once among the blocks of a repository
abbrev pub may_repeat : (List ℕ → List ℕ) → ℕ → State → List ℕ → Bool
may_repeat digest bits s c = nat_lt 1 (uses digest c (state_blocks digest bits s))

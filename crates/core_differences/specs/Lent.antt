-- What two cores lend.
use Rattle.std.specs.Prelude.{ℕ, List, ◌&&◌, nat_lt, Option, Some, None, if◌then◌else◌}
use Rattle.std.specs.Arc.{arc_value}
use Rattle.std.specs.Str.{bytes_eq}
use Rattle.std.specs.declared.sync.Arc.{Arc}
use Rattle.spec.specs.Cid.{cid as cid_of}
use Rattle.kept.specs.Uses.{Uses, at}
use Rattle.kept.specs.declared.kept_use.Use.{Use}

-- the block of a use that is one, and has this CID
abbrev pub own_of : {D A : Type 0} → (List ℕ → List ℕ) → List ℕ → Option (Use D A) → Option (Arc (List ℕ) A)
own_of digest c None = None
own_of digest c (Some u) =
    if nat_lt 0 u.uses && bytes_eq (cid_of digest (arc_value u.hold.0)) c then Some u.hold.0 else None

-- what a lender gives so
abbrev pub own_in : {D A : Type 0} → (List ℕ → List ℕ) → Uses D A → List ℕ → Option (Arc (List ℕ) A)
own_in digest m c = own_of digest c (at m c)

abbrev pub first_given : {X : Type 0} → Option X → Option X → Option X
first_given None o = o
first_given (Some x) o = Some x

-- what two lenders give
abbrev pub lent_by : {D A : Type 0} → (List ℕ → List ℕ) → Uses D A → Uses D A → List ℕ → Option (Arc (List ℕ) A)
lent_by digest m n c = first_given (own_in digest m c) (own_in digest n c)

-- What is done where a repository takes a difference.
use Rattle.std.specs.Prelude.{◌≡◌, ℕ, List, Option, Some, None, Result, Ok, Err}
use Rattle.spec.specs.Blocks.{pairs}
use Rattle.spec.specs.Stamps.{Stamp}
use Rattle.spec.specs.Writes.{Write}
use Rattle.spec.specs.States.{State, IsLawful, after_batch, records, state_root, state_test}
use Rattle.change_laws.specs.Told.{KeyChange, DifferBy}
use Rattle.change_laws.specs.Given.{ChangeFault, OtherValue}
use Rattle.step_laws.specs.StepLaws.{told_before}
use Rattle.repo.specs.Refusals.{IsApplied}
use Rattle.repo.specs.declared.applied.Applied.{Applied}
use Rattle.difference_taking.specs.Writing.{batch_of}

-- ---- the values before

-- in a repository each key has what is told before its change, or the first that hasn't stands at a place
abbrev pub had_in : (List ℕ → List ℕ) → State → List KeyChange → Result (Unit {0}) ChangeFault
had_in digest s cs = told_before (pairs digest (records s)) cs

-- by the place of the first key with another value, if there is one
abbrev pub had_but : Option ℕ → Result (Unit {0}) ChangeFault
had_but None = Ok tt
had_but (Some place) = Err (OtherValue place)

-- ---- what is done

-- The batch of the changes, with these records, is applied, and each key had what is told.
pub record IsTaken (digest : List ℕ → List ℕ) (bits : ℕ) (old new : State) (stamp : Stamp)
    (given : List (List ℕ)) (cs : List KeyChange) (a : Applied) : Type 0 where
  pub batch : List Write
  pub batch_is : batch_of digest given cs ≡ Ok batch
  pub had : had_in digest old cs ≡ Ok tt
  pub passes : state_test old stamp batch ≡ Ok tt
  pub after : new ≡ after_batch old stamp batch
  pub applied : IsApplied digest bits old new a

-- ---- what that leads to

-- two repositories differ by these changes: each key had and has what is told, and the others have what they had
abbrev pub DifferOnlyBy : (List ℕ → List ℕ) → State → State → List KeyChange → Type 0
DifferOnlyBy digest old new cs = DifferBy cs (pairs digest (records old)) (pairs digest (records new))

-- whatever repository differs from the old one by these changes has the new one's root
abbrev pub HasRootOfOthers : (List ℕ → List ℕ) → ℕ → State → State → List KeyChange → Type 0
HasRootOfOthers digest bits old new cs = (other : State) → IsLawful other
    → DifferOnlyBy digest old other cs → state_root digest bits new ≡ state_root digest bits other

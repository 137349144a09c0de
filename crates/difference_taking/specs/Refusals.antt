-- Why a difference isn't taken.
use Rattle.std.specs.Prelude.{◌≡◌, ⊤, ℕ, suc, cond, List, Result, Ok, Err}
use Rattle.spec.specs.Stamps.{Stamp}
use Rattle.spec.specs.Writes.{Write}
use Rattle.spec.specs.States.{State}
use Rattle.change_laws.specs.Told.{KeyChange}
use Rattle.change_laws.specs.Given.{OtherValue as HasOtherValue}
use Rattle.batches.specs.declared.fault.RepoFault.{RepoFault}
use Rattle.batches.specs.declared.fault.RepoFault.TheVariants as faults
use Rattle.repo.specs.Fulls.{is_full}
use Rattle.repo.specs.Refusals.{IsRefusal}
use Rattle.difference_taking.specs.Writing.{batch_of}
use Rattle.difference_taking.specs.Taking.{had_in}
use Rattle.difference_taking.specs.declared.fault.TakingFault.{TakingFault}
use Rattle.difference_taking.specs.declared.fault.TakingFault.TheVariants as takings

-- the records are all given, and P holds of the batch
pub record WithBatch (digest : List ℕ → List ℕ) (given : List (List ℕ)) (cs : List KeyChange)
    (P : List Write → Type 0) : Type 0 where
  pub batch : List Write
  pub batch_is : batch_of digest given cs ≡ Ok batch
  pub holds : P batch

-- a want of memory is told as that, whatever it was wanted for
abbrev pub IsNoWant : {D A : Type 0} → RepoFault D A → Type 0 → Type 0
IsNoWant faults.NoMemory P = ⊥
IsNoWant fault P = P

-- The first record that is missing; where none is, the first key that has another value; where none has, what refuses the batch;
-- or a want of memory.
abbrev pub IsRefused : {D A : Type 0} → (List ℕ → List ℕ) → ℕ → State → Stamp → List (List ℕ) → List KeyChange
    → ℕ → ℕ → TakingFault D A → Type 0
IsRefused digest bits s stamp given cs full fuller (takings.RecordMissing place) = batch_of digest given cs ≡ Err place
IsRefused digest bits s stamp given cs full fuller (takings.OtherValue place) =
    WithBatch digest given cs (λ batch. had_in digest s cs ≡ Err (HasOtherValue place))
IsRefused digest bits s stamp given cs full fuller (takings.Refused place fault) =
    IsNoWant fault (WithBatch digest given cs (λ batch. (had_in digest s cs ≡ Ok tt)
    × IsRefusal digest bits s stamp batch full fuller (place, fault)))
IsRefused digest bits s stamp given cs full fuller takings.NoMemory = ⊤

-- of the batch alone: a record is missing, or memory is wanted
abbrev pub IsMissing : {D A : Type 0} → (List ℕ → List ℕ) → List (List ℕ) → List KeyChange → TakingFault D A → Type 0
IsMissing digest given cs (takings.RecordMissing place) = batch_of digest given cs ≡ Err place
IsMissing digest given cs (takings.OtherValue place) = ⊥
IsMissing digest given cs (takings.Refused place fault) = ⊥
IsMissing digest given cs takings.NoMemory = ⊤

-- what a refusal of the batch is here
abbrev pub refused_as : {D A : Type 0} → ℕ → RepoFault D A → TakingFault D A
refused_as place faults.NoMemory = takings.NoMemory
refused_as place fault = takings.Refused place fault

-- how often a store has answered that it's full: once more just where the batch is refused so
abbrev pub fulls_after_fault : {D A : Type 0} → ℕ → TakingFault D A → ℕ
fulls_after_fault n (takings.RecordMissing place) = n
fulls_after_fault n (takings.OtherValue place) = n
fulls_after_fault n (takings.Refused place fault) = cond (is_full fault) (suc n) n
fulls_after_fault n takings.NoMemory = n

abbrev pub fulls_after_taking : {T D A : Type 0} → ℕ → Result T (TakingFault D A) → ℕ
fulls_after_taking n (Ok x) = n
fulls_after_taking n (Err fault) = fulls_after_fault n fault

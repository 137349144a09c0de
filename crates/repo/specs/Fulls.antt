-- How often a store has answered that it's full.
use Rattle.std.specs.Prelude.{ℕ, suc, Bool, true, false, cond, Result, Ok, Err}
use Rattle.batches.specs.declared.fault.RepoFault.{RepoFault}
use Rattle.batches.specs.declared.fault.RepoFault.TheVariants as faults

-- whether a fault says that the store is full
abbrev pub is_full : {D A : Type 0} → RepoFault D A → Bool
is_full faults.StoreFull = true
is_full fault = false

-- A store has answered so often, before and after a step: once more where the step says so, and not
-- where it says anything else. So a store that is full is never told as a want of memory.
abbrev pub fulls_after_step : {T D A : Type 0} → ℕ → Result T (RepoFault D A) → ℕ
fulls_after_step n (Ok x) = n
fulls_after_step n (Err fault) = cond (is_full fault) (suc n) n

-- the same of a batch, whose fault has a place
abbrev pub fulls_after_batch : {T D A : Type 0} → ℕ → Result T (ℕ × RepoFault D A) → ℕ
fulls_after_batch n (Ok x) = n
fulls_after_batch n (Err refusal) = cond (is_full refusal.1) (suc n) n

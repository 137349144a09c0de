-- At which write of a batch a fault of its blocks is told.
use Rattle.std.specs.Prelude.{◌≡◌, ◌+◌, ◌<◌, ℕ}
use Rattle.batches.specs.declared.fault.RepoFault.{RepoFault}
use Rattle.batches.specs.declared.fault.RepoFault.TheVariants as faults

-- of the blocks of the whole batch: want of memory at the first write, all else at the last, which this is
abbrev pub place_for : {D A : Type 0} → ℕ → RepoFault D A → ℕ
place_for last faults.NoMemory = 0
place_for last fault = last

abbrev pub placed : {D A : Type 0} → ℕ → RepoFault D A → ℕ × RepoFault D A
placed last fault = (place_for last fault, fault)

abbrev pub IsPlacedBy : {D A : Type 0} → ℕ → ℕ → RepoFault D A → Type 0
IsPlacedBy n place faults.NoMemory = place < n
IsPlacedBy n place fault = place + 1 ≡ n

-- of the blocks of n writes, the last of which has the commit's: want of memory at any of them, all else at the last
abbrev pub IsPlaced : {D A : Type 0} → ℕ → ℕ × RepoFault D A → Type 0
IsPlaced n refusal = IsPlacedBy n refusal.0 refusal.1

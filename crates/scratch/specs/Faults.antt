-- When a tree is not built.
use Rattle.std.specs.Prelude.{ℕ, ◌<◌, List, [], length, slice_index_or, ⊤}
use Rattle.spec.specs.Blocks.{IsClash, IsClashIn}
use Rattle.scratch.specs.declared.fault.ScratchFault.{ScratchFault}
use Rattle.scratch.specs.declared.fault.ScratchFault.TheVariants.{Clash, NoMemory}

-- the blocks at two places clash
pub record AreClashing (digest : List ℕ → List ℕ) (blocks : List (List ℕ)) (one other : ℕ) : Type 0 where
  pub has_one : one < length blocks
  pub has_other : other < length blocks
  pub clash : IsClash digest (slice_index_or blocks one []) (slice_index_or blocks other [])

-- the fault is right for these nodes; of a want of memory nothing is said
abbrev pub IsFaultOf : {D A : Type 0} → (List ℕ → List ℕ) → List (List ℕ) → ScratchFault D A → Type 0
IsFaultOf digest nodes (Clash pair) = IsClashIn digest nodes pair
IsFaultOf digest nodes NoMemory = ⊤

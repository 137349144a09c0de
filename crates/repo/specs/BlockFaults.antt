-- Why the blocks of a batch aren't kept.
use Rattle.std.specs.Prelude.{◌⊎◌, ◌<◌, ⊤, ℕ, List, Contains}
use Rattle.spec.specs.Blocks.{IsClash}
use Rattle.batches.specs.declared.fault.RepoFault.{RepoFault}
use Rattle.batches.specs.declared.fault.RepoFault.TheVariants as faults

-- two blocks that clash, of which one is among these
pub record IsClashAt (digest : List ℕ → List ℕ) (bs : List (List ℕ)) (pair : List ℕ × List ℕ)
    : Type 0 where
  pub clash : IsClash digest pair.0 pair.1
  pub here : Contains bs pair.0 ⊎ Contains bs pair.1

-- a clash of one of these blocks, a store that has answered that it is full, or a want of memory
abbrev pub IsBlockFault : {D A : Type 0} → (List ℕ → List ℕ) → List (List ℕ) → ℕ → ℕ
    → RepoFault D A → Type 0
IsBlockFault digest bs before after (faults.Collision pair) = IsClashAt digest bs pair
IsBlockFault digest bs before after faults.StoreFull = before < after
IsBlockFault digest bs before after faults.NoMemory = ⊤
IsBlockFault digest bs before after faults.BadKey = ⊥
IsBlockFault digest bs before after (faults.BadRecord f) = ⊥
IsBlockFault digest bs before after faults.NotAMap = ⊥
IsBlockFault digest bs before after faults.RecordSize = ⊥
IsBlockFault digest bs before after faults.KeyExists = ⊥
IsBlockFault digest bs before after faults.NoSuchKey = ⊥
IsBlockFault digest bs before after faults.WritesFull = ⊥
IsBlockFault digest bs before after faults.EmptyBatch = ⊥
IsBlockFault digest bs before after faults.BadDid = ⊥
IsBlockFault digest bs before after faults.BadRev = ⊥
IsBlockFault digest bs before after faults.RevOrder = ⊥

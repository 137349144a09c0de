-- When a tree is not changed.
use Rattle.std.specs.Prelude.{⊤, ℕ, List, Result, Ok, Err}
use Rattle.spec.specs.Blocks.{IsClashIn}
use Rattle.edit.specs.declared.outcome.EditFault.{EditFault}
use Rattle.edit.specs.declared.outcome.EditFault.TheVariants.{Missing, BadNode, TooDeep, NotTree, NoSuchKey, Clash, NoMemory}

-- a refusal: there is no such key only where P holds, and two of these blocks clash; of a want of memory nothing is said
abbrev pub IsRefusal : {D A : Type 0} → (List ℕ → List ℕ) → List (List ℕ) → Type 0 → EditFault D A → Type 0
IsRefusal digest blocks P (Missing c) = ⊥
IsRefusal digest blocks P (BadNode c) = ⊥
IsRefusal digest blocks P TooDeep = ⊥
IsRefusal digest blocks P NotTree = ⊥
IsRefusal digest blocks P NoSuchKey = P
IsRefusal digest blocks P (Clash pair) = IsClashIn digest blocks pair
IsRefusal digest blocks P NoMemory = ⊤

-- a key, a block or memory is missing
abbrev pub IsAbsence : {D A : Type 0} → EditFault D A → Type 0
IsAbsence (Missing c) = ⊤
IsAbsence (BadNode c) = ⊤
IsAbsence TooDeep = ⊤
IsAbsence NotTree = ⊤
IsAbsence NoSuchKey = ⊤
IsAbsence (Clash pair) = ⊥
IsAbsence NoMemory = ⊤

-- neither an edit nor a clash
abbrev pub IsMissing : {T D A : Type 0} → Result T (EditFault D A) → Type 0
IsMissing (Ok x) = ⊥
IsMissing (Err fault) = IsAbsence fault

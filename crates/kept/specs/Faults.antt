-- When a use isn't counted.
use Rattle.std.specs.Prelude.{⊤, ℕ, List, Contains}
use Rattle.spec.specs.Blocks.{IsClash}
use Rattle.store.specs.declared.fault.StoreFault.{StoreFault}
use Rattle.store.specs.declared.fault.StoreFault.TheVariants.{Collision, Full, NoMemory}

-- a fault that isn't the store's word that it's full
abbrev pub IsNotFull : {D A : Type 0} → StoreFault D A → Type 0
IsNotFull (Collision pair) = ⊤
IsNotFull Full = ⊥
IsNotFull NoMemory = ⊤

-- a refusal of one of these blocks: a collision shows that block and another with its CID
abbrev pub IsRefusalOfOne : {D A : Type 0} → (List ℕ → List ℕ) → List (List ℕ) → StoreFault D A → Type 0
IsRefusalOfOne digest bs (Collision pair) = Contains bs pair.0 × IsClash digest pair.0 pair.1
IsRefusalOfOne digest bs Full = ⊤
IsRefusalOfOne digest bs NoMemory = ⊤

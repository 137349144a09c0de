-- What a writer's known contents are after bytes were written to it.
use Rattle.std.specs.Prelude.{◌≡◌, ℕ, List, ◌++◌, Option, Result, Ok, Err, MatchResult}
use Rattle.std.specs.Io.KnownBytes.{Appends}

-- they grew by a beginning of the bytes
abbrev pub AppendsBeginning : Option (List ℕ) → Option (List ℕ) → List ℕ → Type 0
AppendsBeginning old new bytes = (front : List ℕ) × (rest : List ℕ) × (bytes ≡ front ++ rest) × Appends old new front

-- at Ok they grew by the bytes, and at Err by a beginning of them
abbrev pub Writes : {E : Type 0} → Option (List ℕ) → Option (List ℕ) → Result (Unit {0}) E → List ℕ → Type 0
Writes old new result bytes = MatchResult result (λ _. Appends old new bytes) (λ _. AppendsBeginning old new bytes)

-- they grew by the text, of which there is one
abbrev pub AppendsText : {F : Type 0} → Option (List ℕ) → Option (List ℕ) → Result (List ℕ) F → Type 0
AppendsText old new (Ok text) = Appends old new text
AppendsText old new (Err fault) = ⊥

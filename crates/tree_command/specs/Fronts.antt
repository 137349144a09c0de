-- The first bytes of a key, as numbers by which keys are compared.
use Rattle.std.specs.Prelude.{◌≡◌, ℕ, zero, suc, List, [], ◌∷◌, take, drop}
use Rattle.std.specs.Int.{w64, from_be_bytes}
use Rattle.spec.specs.Reading.{IsBytes}

-- the first n bytes, with zero bytes after them where there are fewer
abbrev pub filled : ℕ → List ℕ → List ℕ
filled zero key = []
filled (suc n) [] = 0 ∷ filled n []
filled (suc n) (x ∷ key) = x ∷ filled n key

-- the numbers that n groups of eight bytes spell, the highest first
abbrev pub numbers : ℕ → List ℕ → List ℕ
numbers zero bytes = []
numbers (suc n) bytes = from_be_bytes w64 (take 8 bytes) ∷ numbers n (drop 8 bytes)

-- these numbers are those of the first 32 bytes
pub record IsFront (front key : List ℕ) : Type 0 where
  pub is : front ≡ numbers 4 (filled 32 key)
  pub fits : IsBytes key

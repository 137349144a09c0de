-- Heads of data items have one form each.
use Rattle.std.specs.Prelude.{◌≡◌, ℕ, ◌<◌, ◌^◌, List, ◌++◌, Ok}
use Rattle.spec.specs.Reading.{IsBytes}
use Rattle.spec.specs.Head.{head, head_at}

-- a head is read as it was written, whatever follows it
abbrev pub HeadReadsBack : Type 0
HeadReadsBack = (m n : ℕ) (rest : List ℕ) → m < 7 → n < 2 ^ 64 → head_at (head m n ++ rest) ≡ Ok ((m, n), rest)

-- what is read as a head, other than of a simple value, is a shortest head
abbrev pub OnlyHeadsAreRead : Type 0
OnlyHeadsAreRead = (bytes rest : List ℕ) (m n : ℕ) → IsBytes bytes → m < 7 → head_at bytes ≡ Ok ((m, n), rest) → (bytes ≡ head m n ++ rest) × (n < 2 ^ 64)

-- no head begins another, and no two heads are spelled alike
abbrev pub NoHeadBeginsAnother : Type 0
NoHeadBeginsAnother = (m n k l : ℕ) (x y : List ℕ) → m < 7 → n < 2 ^ 64 → k < 7 → l < 2 ^ 64 → head m n ++ x ≡ head k l ++ y → (m ≡ k) × (n ≡ l) × (x ≡ y)

-- Each lawful value has one spelling, and each spelling one value.
use Rattle.std.specs.Prelude.{◌≡◌, ℕ, true, List, ◌++◌, Ok}
use Rattle.spec.specs.Reading.{IsBytes}
use Rattle.spec.specs.DagCbor.{Value, spelling, is_lawful, read}

-- the spelling of a lawful value reads as that value
abbrev pub ValueReadsBack : Type 0
ValueReadsBack = (v : Value) → is_lawful v ≡ true → read (spelling v) ≡ Ok v

-- what is read is the spelling of a lawful value
abbrev pub OnlySpellingsAreRead : Type 0
OnlySpellingsAreRead = (bytes : List ℕ) (v : Value) → IsBytes bytes → read bytes ≡ Ok v → (bytes ≡ spelling v) × (is_lawful v ≡ true)

-- no spelling begins another, and no two values are spelled alike
abbrev pub NoSpellingBeginsAnother : Type 0
NoSpellingBeginsAnother = (v w : Value) (x y : List ℕ) → is_lawful v ≡ true → is_lawful w ≡ true → spelling v ++ x ≡ spelling w ++ y → (v ≡ w) × (x ≡ y)

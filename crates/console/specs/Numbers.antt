-- Numbers that words of a command line write.
use Rattle.std.specs.Prelude.{◌≡◌, ◌<◌, ◌^◌, ℕ, List, Option, Some, None}
use Rattle.std.specs.Str.Parse.{IsNumeral, digits_value, without_leading_plus}

-- the number of so many bits that a text writes in decimal digits, or another one where there is no text
abbrev pub IsNumberOf : ℕ → ℕ → Option (List ℕ) → ℕ → Type 0
IsNumberOf bits other None n = n ≡ other
IsNumberOf bits other (Some text) n = IsNumeral 10 (without_leading_plus text)
    × (n ≡ digits_value 10 (without_leading_plus text)) × (n < 2 ^ bits)

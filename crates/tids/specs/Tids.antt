-- Timestamp identifiers (AT Protocol, TID): 64 bits in 13 letters, of which the highest bit is 0, then 53 bits are microseconds since
-- 1970, and 10 bits whose clock it is.
use Rattle.std.specs.Prelude.{ℕ, ◌+◌, ◌-◌, ◌*◌, ◌/◌, ◌%◌, ◌^◌, ◌&&◌, List, [], ◌∷◌, nat_lt, nat_le, if◌then◌else◌, Option, Some, None, Result, Ok}
use Rattle.spec.specs.Reading.{◌>>=◌, ensure}
use Rattle.spec.specs.Stamps.{is_next_rev, is_tid}

-- ---- letters, of which each is five bits: 2 to 7, and a to z

abbrev pub letter : ℕ → ℕ
letter digit = if nat_lt digit 6 then digit + 50 else digit + 91

abbrev pub digit : ℕ → ℕ
digit letter =
    if nat_le 97 letter && nat_le letter 122 then letter - 91
    else if nat_le 50 letter && nat_le letter 55 then letter - 50
    else 0

-- the letters of a number below 2^64, the highest first
unfoldable pub letters : ℕ → List ℕ
letters n =
    letter (n / 2 ^ 60 % 32) ∷ letter (n / 2 ^ 55 % 32) ∷ letter (n / 2 ^ 50 % 32) ∷ letter (n / 2 ^ 45 % 32)
    ∷ letter (n / 2 ^ 40 % 32) ∷ letter (n / 2 ^ 35 % 32) ∷ letter (n / 2 ^ 30 % 32) ∷ letter (n / 2 ^ 25 % 32)
    ∷ letter (n / 2 ^ 20 % 32) ∷ letter (n / 2 ^ 15 % 32) ∷ letter (n / 2 ^ 10 % 32) ∷ letter (n / 2 ^ 5 % 32)
    ∷ letter (n % 32) ∷ []

-- the number of letters behind a number, while it has 64 bits
abbrev pub number_from : ℕ → List ℕ → Option ℕ
number_from n [] = Some n
number_from n (b ∷ bs) = if nat_lt n (2 ^ 59) then number_from (n * 32 + digit b) bs else None

abbrev pub number_of : List ℕ → Option ℕ
number_of bs = number_from 0 bs

-- ---- the next one

-- What there is none for: one before that is none; microseconds or a clock that have more than 53 and 10 bits; one before that is
-- the last of all.
pub data TidFault : Type 0 where
  BadTid : TidFault
  OutOfRange : TidFault
  NoneAfter : TidFault

abbrev pub passes : Option (List ℕ) → Result (Unit {0}) TidFault
passes None = Ok tt
passes (Some last) = ensure (is_tid last) BadTid

-- a moment by a clock
abbrev pub moment : ℕ → ℕ → ℕ
moment micros clock = micros * 1024 + clock

-- the microseconds of the next one: these, and where they by this clock aren't after the last one the next ones after that
abbrev pub after_number : Option ℕ → ℕ → ℕ → ℕ
after_number None micros clock = micros
after_number (Some n) micros clock = if nat_lt n (moment micros clock) then micros else n / 1024 + 1

abbrev pub last_number : Option (List ℕ) → Option ℕ
last_number None = None
last_number (Some last) = number_of last

abbrev pub next_micros : Option (List ℕ) → ℕ → ℕ → ℕ
next_micros last micros clock = after_number (last_number last) micros clock

-- that at some microseconds, where it is after the last one
unfoldable pub following : Option (List ℕ) → ℕ → ℕ → Result (List ℕ) TidFault
following last micros clock = do
  small ← ensure (nat_lt micros (2 ^ 53)) NoneAfter
  next ← ensure (is_next_rev last (letters (moment micros clock))) NoneAfter
  Ok (letters (moment micros clock))

-- the next one after the last, which may be none, at some microseconds by a clock, which may have gone back
unfoldable pub next_tid : Option (List ℕ) → ℕ → ℕ → Result (List ℕ) TidFault
next_tid last micros clock = do
  passed ← passes last
  few ← ensure (nat_lt micros (2 ^ 53) && nat_lt clock 1024) OutOfRange
  following last (next_micros last micros clock) clock

-- Unsigned LEB128 numbers, the low seven bits first (multiformats, unsigned-varint; CARv1, format).
-- A length in a CAR has no bound but the machine's, so the writer has ten bytes, enough for each number below 2 ^ 70.
-- The reader takes the numbers in a link's CID, of at most nine bytes and in the shortest form (unsigned-varint).
use Rattle.std.specs.Prelude.{ℕ, zero, suc, ◌+◌, ◌*◌, ◌/◌, ◌%◌, List, [], ◌∷◌, nat_lt, ◌==◌, if◌then◌else◌, Option, Some, None}

-- at most k bytes
abbrev pub varint_within : ℕ → ℕ → List ℕ
varint_within zero n = []
varint_within (suc k) n = if nat_lt n 128 then n ∷ [] else (128 + n % 128) ∷ varint_within k (n / 128)

-- LEB128 of a number below 2 ^ 70
abbrev pub varint : ℕ → List ℕ
varint n = varint_within 10 n

-- a higher part that is 0 would have a shorter form
abbrev pub with_low : ℕ → Option (ℕ × List ℕ) → Option (ℕ × List ℕ)
with_low low None = None
with_low low (Some high) = if high.0 == 0 then None else Some (low + 128 * high.0, high.1)

-- a number of at most k bytes at the front, and the bytes after it
abbrev pub varint_at_within : ℕ → List ℕ → Option (ℕ × List ℕ)
varint_at_within zero bytes = None
varint_at_within (suc k) [] = None
varint_at_within (suc k) (b ∷ bytes) = if nat_lt b 128 then Some (b, bytes) else with_low (b % 128) (varint_at_within k bytes)

-- a number at the front, and the bytes after it
abbrev pub varint_at : List ℕ → Option (ℕ × List ℕ)
varint_at bytes = varint_at_within 9 bytes

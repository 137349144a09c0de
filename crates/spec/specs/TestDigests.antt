-- Digests for tests and rows (a choice of this project): a key stands in the layer that its last digit asks for.
use Rattle.std.specs.Prelude.{ℕ, ◌+◌, ◌-◌, ◌*◌, ◌/◌, ◌%◌, ◌^◌, ◌&&◌, List, ◌∷◌, ◌++◌, length, fold, replicate, slice_index, nat_lt, if◌then◌else◌}
use Rattle.std.specs.Int.{w64, to_be_bytes}

-- 0 to 3 for a last byte that is that ASCII digit, else 0
abbrev pub last_digit : List ℕ → ℕ
last_digit bytes = let c = slice_index bytes (length bytes - 1) in if nat_lt 47 c && nat_lt c 52 then c - 48 else 0

-- 2 d zero bits and then ones, for a last digit d
abbrev pub first_byte : List ℕ → ℕ
first_byte bytes = 255 / 2 ^ (2 * last_digit bytes)

-- 32 bytes that begin with two zero bits for each layer, and differ where the bytes do (as far as a row needs it)
abbrev pub by_last_digit : List ℕ → List ℕ
by_last_digit bytes = first_byte bytes ∷ to_be_bytes w64 (fold (λ sum b. (sum * 257 + b) % 2 ^ 64) 1 bytes) ++ replicate 23 0

-- Digests for tests (a choice of this project): 32 bytes without any cryptography.
use Rattle.std.specs.Prelude.{◌≡◌, ◌<◌, ℕ, zero, suc, ◌*◌, ◌%◌, ◌^◌, List, ◌∷◌, ◌++◌, length, fold, replicate, bit_xor}
use Rattle.std.specs.Int.{w64, to_be_bytes}
use Rattle.std.proofs.Common.{refl, arith}
use Rattle.std.proofs.Math.Nat.{div-le_self}
use Rattle.std.proofs.lemmas.Nat.{mod_below}
use Rattle.spec.specs.Reading.{IsBytes}
use Rattle.spec.specs.TestDigests.{last_digit, first_byte}
use Rattle.cid.specs.Digests.{IsBytes-cons, IsBytes-append, IsBytes-high_first}

-- FNV-1a of 64 bits (Fowler, Noll, Vo)
abbrev pub mixed : ℕ → ℕ → ℕ
mixed hash byte = bit_xor hash byte * 0x00000100000001b3 % 2 ^ 64

abbrev pub fnv1a : List ℕ → ℕ
fnv1a bytes = fold mixed 0xcbf29ce484222325 bytes

-- a first byte that gives a key the layer that it asks for, the hash, and zeros
unfoldable pub toy : List ℕ → List ℕ
toy bytes = first_byte bytes ∷ to_be_bytes w64 (fnv1a bytes) ++ replicate 23 0

-- one digest for every input
unfoldable pub clash : List ℕ → List ℕ
clash bytes = replicate 32 255

-- the same first byte, the length, and zeros
unfoldable pub size : List ℕ → List ℕ
size bytes = first_byte bytes ∷ length bytes % 256 ∷ replicate 30 0

-- ---- they have 32 numbers, and each is a byte

IsBytes-replicate : (n byte : ℕ) → byte < 256 → IsBytes (replicate n byte)
IsBytes-replicate zero byte below i = omega arith
IsBytes-replicate (suc n) byte below i = IsBytes-cons byte (replicate n byte) below (IsBytes-replicate n byte below) i

first_byte-lt : (bytes : List ℕ) → first_byte bytes < 256
first_byte-lt bytes = omega (arith, div-le_self 255 (2 ^ (2 * last_digit bytes)))

pub length-toy : (bytes : List ℕ) → length (toy bytes) ≡ 32
unfolding toy
length-toy bytes = refl

pub IsBytes-toy : (bytes : List ℕ) → IsBytes (toy bytes)
unfolding toy
IsBytes-toy bytes =
    IsBytes-cons (first_byte bytes) (to_be_bytes w64 (fnv1a bytes) ++ replicate 23 0) (first_byte-lt bytes)
    (IsBytes-append (to_be_bytes w64 (fnv1a bytes)) (replicate 23 0) (IsBytes-high_first 8 (fnv1a bytes)) (IsBytes-replicate 23 0 (omega arith)))

pub length-clash : (bytes : List ℕ) → length (clash bytes) ≡ 32
unfolding clash
length-clash bytes = refl

pub IsBytes-clash : (bytes : List ℕ) → IsBytes (clash bytes)
unfolding clash
IsBytes-clash bytes = IsBytes-replicate 32 255 (omega arith)

pub length-size : (bytes : List ℕ) → length (size bytes) ≡ 32
unfolding size
length-size bytes = refl

pub IsBytes-size : (bytes : List ℕ) → IsBytes (size bytes)
unfolding size
IsBytes-size bytes =
    IsBytes-cons (first_byte bytes) (length bytes % 256 ∷ replicate 30 0) (first_byte-lt bytes)
    (IsBytes-cons (length bytes % 256) (replicate 30 0) (mod_below (length bytes) 256 (omega arith)) (IsBytes-replicate 30 0 (omega arith)))

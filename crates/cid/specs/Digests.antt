-- The numbers of a SHA-256 digest are bytes.
use Rattle.std.proofs.Common.{ℕ, zero, suc, ◌<◌, ◌/◌, ◌^◌, List, [], ◌∷◌, ◌++◌, arith}
use Rattle.std.specs.Prelude.{slice_index}
use Rattle.std.proofs.lemmas.Nat.{mod_below}
use Rattle.std.specs.Int.{w32, to_be_bytes, bytes_high_first, byte_at}
use Rattle.spec.specs.Reading.{IsBytes}
use Rattle.sha2.specs.Sha256.{digest_bytes, final_hash, initial_hash_256, sha256}

pub IsBytes-cons : (x : ℕ) (xs : List ℕ) → x < 256 → IsBytes xs → IsBytes (x ∷ xs)
IsBytes-cons x xs below rest zero = below
IsBytes-cons x xs below rest (suc i) = rest i

pub IsBytes-append : (xs ys : List ℕ) → IsBytes xs → IsBytes ys → IsBytes (xs ++ ys)
IsBytes-append [] ys f g = g
IsBytes-append (x ∷ xs) ys f g = IsBytes-cons x (xs ++ ys) (f 0) (IsBytes-append xs ys (λ j. f (suc j)) g)

byte_at-lt : (k n : ℕ) → byte_at k n < 256
byte_at-lt zero n = mod_below n 256 (omega arith)
byte_at-lt (suc k) n = mod_below (n / 256 ^ suc k) 256 (omega arith)

pub IsBytes-high_first : (k n : ℕ) → IsBytes (bytes_high_first k n)
IsBytes-high_first zero n i = omega arith
IsBytes-high_first (suc k) n zero = byte_at-lt k n
IsBytes-high_first (suc k) n (suc i) = IsBytes-high_first k n i

IsBytes-digest_bytes : (h : List ℕ) (n : ℕ) → IsBytes (digest_bytes h n)
unfolding digest_bytes
IsBytes-digest_bytes h zero = λ i. omega arith
IsBytes-digest_bytes h (suc n) =
    IsBytes-append (digest_bytes h n) (to_be_bytes w32 (slice_index h n)) (IsBytes-digest_bytes h n) (IsBytes-high_first 4 (slice_index h n))

pub IsBytes-sha256 : (m : List ℕ) → IsBytes (sha256 m)
unfolding sha256
IsBytes-sha256 m = IsBytes-digest_bytes (final_hash initial_hash_256 m) 8

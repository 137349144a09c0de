-- A digest for tests whose first 24 bytes are zeros: tables hash all its identifiers alike.
use Rattle.std.specs.Prelude.{◌≡◌, ℕ, zero, suc, List, ◌++◌, length, replicate}
use Rattle.std.specs.Int.{w64, to_be_bytes}
use Rattle.std.proofs.Common.{refl, arith}
use Rattle.spec.specs.Reading.{IsBytes}
use Rattle.cid.specs.Digests.{IsBytes-cons, IsBytes-append, IsBytes-high_first}

-- zeros, and then how many bytes there are
unfoldable pub late : List ℕ → List ℕ
late bytes = replicate 24 0 ++ to_be_bytes w64 (length bytes)

IsBytes-zeros : (n : ℕ) → IsBytes (replicate n 0)
IsBytes-zeros zero i = omega arith
IsBytes-zeros (suc n) i = IsBytes-cons 0 (replicate n 0) (omega arith) (IsBytes-zeros n) i

pub length-late : (bytes : List ℕ) → length (late bytes) ≡ 32
unfolding late
length-late bytes = refl

pub IsBytes-late : (bytes : List ℕ) → IsBytes (late bytes)
unfolding late
IsBytes-late bytes = IsBytes-append (replicate 24 0) (to_be_bytes w64 (length bytes)) (IsBytes-zeros 24) (IsBytes-high_first 8 (length bytes))

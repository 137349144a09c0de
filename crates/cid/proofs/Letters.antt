-- The text of a CID is ASCII.
use Rattle.std.proofs.Common.{◌≡◌, ℕ, zero, suc, ◌<◌, ◌&&◌, Bool, true, false, List, [], ◌∷◌, map, refl, arith}
use Rattle.std.specs.Prelude.{nat_lt}
use Rattle.std.specs.List.{list_all}
use Rattle.std.specs.Str.{IsAscii, IsUtf8}
use Rattle.std.proofs.lemmas.Bool.{ltb-true}
use Rattle.std.proofs.lemmas.Str.{IsUtf8-from_ascii}
use Rattle.spec.specs.Cid.{alphabet, five_bits, letter, text}

first : (a b : Bool) → (a && b) ≡ true → a ≡ true
first true b e = refl
first false b e = absurd cc

rest : (a b : Bool) → (a && b) ≡ true → b ≡ true
rest true b e = e
rest false b e = absurd cc

IsAscii-tested : (bytes : List ℕ) → list_all (λ b. nat_lt b 128) bytes ≡ true → IsAscii bytes
IsAscii-tested [] e i = omega arith
IsAscii-tested (b ∷ bytes) e zero = ltb-true b 128 (first _ _ e)
IsAscii-tested (b ∷ bytes) e (suc i) = IsAscii-tested bytes (rest _ _ e) i

IsAscii-map : (f : ℕ → ℕ) → ((x : ℕ) → f x < 128) → (xs : List ℕ) → IsAscii (map f xs)
IsAscii-map f small [] i = omega arith
IsAscii-map f small (x ∷ xs) zero = small x
IsAscii-map f small (x ∷ xs) (suc i) = IsAscii-map f small xs i

IsAscii-cons : (x : ℕ) (xs : List ℕ) → x < 128 → IsAscii xs → IsAscii (x ∷ xs)
IsAscii-cons x xs small all zero = small
IsAscii-cons x xs small all (suc i) = all i

pub IsUtf8-text : (c : List ℕ) → IsUtf8 (text c)
IsUtf8-text c =
    let letters : (i : ℕ) → letter c i < 128 = λ i. IsAscii-tested alphabet refl (five_bits c i) in
    IsUtf8-from_ascii (text c) (IsAscii-cons 98 _ (omega arith) (IsAscii-map (letter c) letters _))

-- Letters make a timestamp identifier.
use Rattle.std.proofs.Common.{◌≡◌, ◌<◌, ◌/◌, ◌%◌, ◌^◌, ℕ, zero, suc, Bool, true, false, refl, arith}
use Rattle.std.specs.Prelude.{◌&&◌, codes}
use Rattle.spec.specs.Keys.{is_one_of}
use Rattle.spec.specs.Stamps.{is_tid}
use Rattle.tids.specs.Tids.{letter, letters}

-- ---- tests that hold together

both : (a b : Bool) → a ≡ true → b ≡ true → (a && b) ≡ true
both true true e f = refl
both true false e f = f
both false b e f = e

left : (a b : Bool) → (a && b) ≡ true → a ≡ true
left true b e = refl
left false b e = e

right : (a b : Bool) → (a && b) ≡ true → b ≡ true
right true b e = e
right false b e = absurd cc

-- a test holds of the first numbers
abbrev first_are : (ℕ → Bool) → ℕ → Bool
first_are P zero = true
first_are P (suc n) = P 0 && first_are (λ m. P (suc m)) n

one_is : (P : ℕ → Bool) (n d : ℕ) → first_are P n ≡ true → d < n → P d ≡ true
one_is P zero d e h = absurd (omega (arith, h))
one_is P (suc n) zero e h = left (P 0) (first_are (λ m. P (suc m)) n) e
one_is P (suc n) (suc d) e h = one_is (λ m. P (suc m)) n d (right (P 0) (first_are (λ m. P (suc m)) n) e) (omega (arith, h))

-- ---- letters

-- the letter of five bits is one, and that of four bits one of the first
own : (d : ℕ) → d < 32 → is_one_of (codes "234567abcdefghijklmnopqrstuvwxyz") (letter d) ≡ true
own d h = one_is (λ d. is_one_of (codes "234567abcdefghijklmnopqrstuvwxyz") (letter d)) 32 d refl h

low : (d : ℕ) → d < 16 → is_one_of (codes "234567abcdefghij") (letter d) ≡ true
low d h = one_is (λ d. is_one_of (codes "234567abcdefghij") (letter d)) 16 d refl h

-- five bits of a number
five : (m : ℕ) → m % 32 < 32
five m = omega arith

-- the highest of 63 bits
high : (n : ℕ) → n < 2 ^ 63 → n / 2 ^ 60 % 32 < 16
high n h = omega (arith, h)

pub letters_are : (n : ℕ) → n < 2 ^ 63 → is_tid (letters n) ≡ true
unfolding letters
letters_are n h =
    both _ _
    (both _ _ (own (n / 2 ^ 60 % 32) (five (n / 2 ^ 60)))
    (both _ _ (own (n / 2 ^ 55 % 32) (five (n / 2 ^ 55)))
    (both _ _ (own (n / 2 ^ 50 % 32) (five (n / 2 ^ 50)))
    (both _ _ (own (n / 2 ^ 45 % 32) (five (n / 2 ^ 45)))
    (both _ _ (own (n / 2 ^ 40 % 32) (five (n / 2 ^ 40)))
    (both _ _ (own (n / 2 ^ 35 % 32) (five (n / 2 ^ 35)))
    (both _ _ (own (n / 2 ^ 30 % 32) (five (n / 2 ^ 30)))
    (both _ _ (own (n / 2 ^ 25 % 32) (five (n / 2 ^ 25)))
    (both _ _ (own (n / 2 ^ 20 % 32) (five (n / 2 ^ 20)))
    (both _ _ (own (n / 2 ^ 15 % 32) (five (n / 2 ^ 15)))
    (both _ _ (own (n / 2 ^ 10 % 32) (five (n / 2 ^ 10)))
    (both _ _ (own (n / 2 ^ 5 % 32) (five (n / 2 ^ 5)))
    (both _ _ (own (n % 32) (five n)) refl)))))))))))))
    (both _ _ (low (n / 2 ^ 60 % 32) (high n h)) refl)

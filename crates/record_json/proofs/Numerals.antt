-- The decimal text of a whole number means that number.
use Rattle.std.proofs.Common.{◌≡◌, ℕ, suc, ◌-◌, ◌^◌, ◌<◌, Bool, true, false, cond, eqb, ltb, List, [], ◌∷◌, length, drop, get_or, Ok, Err, ℤ, pos, negsuc, neg_ℤ, refl, sym, ap, subst, arith}
use mir.Syntax.{w64}
use mir.Val.{SFits}
use Rattle.std.specs.Fmt.{decimal, signed_decimal}
use Rattle.std.specs.Char.{is_ascii_digit, digit_value}
use Rattle.std.specs.List.{list_all}
use Rattle.std.specs.Str.Parse.{AllDigits, IsNumeral, starts_with_minus, without_leading_plus, without_leading_sign, signed_digits_value}
use Rattle.std.proofs.lemmas.Fmt.{decimal_is_IsNumeral}
use Rattle.std.proofs.lemmas.Str.Parse.{digit_from_value, digit_at}
use Rattle.std.proofs.lemmas.Bool.{ltb-true, lt-ltb, ne_eqb}
use Rattle.std.proofs.lemmas.Bool.Decides.{nat_tests}
use Rattle.spec.specs.DagCbor.{Integer}
use Rattle.spec.proofs.Bools.{and, both}
use Rattle.record_json.specs.Form.{is_safe}
use Rattle.record_json.specs.Reading.{Float, IntegerRange, is_numeral, without_minus, integer_of}
use Rattle.record_json.proofs.Trees.{mag-is_safe}

is_ascii_digit-digit : (d : ℕ) → digit_value d < 10 → is_ascii_digit d ≡ true
is_ascii_digit-digit d small = let range = digit_from_value d small in grind (arith, nat_tests)

ascii_digits : (ds : List ℕ) → AllDigits 10 ds → list_all is_ascii_digit ds ≡ true
ascii_digits [] all = refl
ascii_digits (d ∷ ds) all = and _ _ (is_ascii_digit-digit d all.0) (ascii_digits ds all.1)

is_numeral-digits : (ds : List ℕ) → IsNumeral 10 ds → is_numeral ds ≡ true
is_numeral-digits ds is = and _ _ (lt-ltb 0 (length ds) is.0) (ascii_digits ds is.1)

-- digits begin with no sign
no_minus : (ds : List ℕ) → IsNumeral 10 ds → starts_with_minus ds ≡ false
no_minus ds is = let first = digit_at ds 0 is.1 is.0 in ne_eqb (get_or ds 0 0) 45 (λ e. omega arith)

no_plus : (ds : List ℕ) → IsNumeral 10 ds → without_leading_plus ds ≡ ds
no_plus ds is =
    let first = digit_at ds 0 is.1 is.0 in
    let e : eqb (get_or ds 0 0) 43 ≡ false = ne_eqb (get_or ds 0 0) 43 (λ e. omega arith) in
    rw e refl

-- the text of a number that is safe
pub read_digits : (s : List ℕ) (z : ℤ) → is_numeral (cond (starts_with_minus s) (drop 1 s) s) ≡ true → signed_digits_value 10 s ≡ z → is_safe z ≡ true → integer_of s ≡ Ok (Integer z)
read_digits s z digits is safe = rw (digits, is, safe) refl

pub integer_of-signed_decimal : (z : ℤ) → is_safe z ≡ true → integer_of (signed_decimal z) ≡ Ok (Integer z)
integer_of-signed_decimal (pos n) safe =
    let lt = ltb-true n (2 ^ 53) safe in
    let k = decimal_is_IsNumeral n (omega arith) in
    let ds = decimal n in
    let none = no_minus ds k.0 in
    read_digits ds (pos n) (rw none (is_numeral-digits ds k.0)) (rw (none, no_plus ds k.0) (ap pos k.1)) safe
integer_of-signed_decimal (negsuc n) safe =
    let lt = ltb-true n (2 ^ 53 - 1) safe in
    let k = decimal_is_IsNumeral (suc n) (omega arith) in
    let ds = decimal (suc n) in
    read_digits (45 ∷ ds) (negsuc n) (is_numeral-digits ds k.0) (ap (λ (m : ℕ). neg_ℤ (pos m)) k.1) safe

-- ---- what a text of digits means to the parser of std

small_digit : (d : ℕ) → is_ascii_digit d ≡ true → digit_value d < 10
small_digit d is = grind (arith, nat_tests)

all_digits : (ds : List ℕ) → list_all is_ascii_digit ds ≡ true → AllDigits 10 ds
all_digits [] are = tt
all_digits (d ∷ ds) are = let p = both (is_ascii_digit d) (list_all is_ascii_digit ds) are in (small_digit d p.0, all_digits ds p.1)

IsNumeral-digits : (ds : List ℕ) → is_numeral ds ≡ true → IsNumeral 10 ds
IsNumeral-digits ds is = let p = both (ltb 0 (length ds)) (list_all is_ascii_digit ds) is in (ltb-true 0 (length ds) p.0, all_digits ds p.1)

behind_sign : (s : List ℕ) (t : Bool) → is_numeral (cond t (drop 1 s) s) ≡ true → IsNumeral 10 (cond t (drop 1 s) (without_leading_plus s))
behind_sign s true is = IsNumeral-digits (drop 1 s) is
behind_sign s false is = let k = IsNumeral-digits s is in subst (IsNumeral 10) (sym (no_plus s k)) k

pub integer_of-no_digits : (s : List ℕ) → is_numeral (without_minus s) ≡ false → integer_of s ≡ Err Float
integer_of-no_digits s none = rw none refl

pub integer_of-unsafe : (s : List ℕ) (z : ℤ) → is_numeral (without_minus s) ≡ true → signed_digits_value 10 s ≡ z → is_safe z ≡ false → integer_of s ≡ Err IntegerRange
integer_of-unsafe s z digits is unsafe = rw (digits, is, unsafe) refl

-- a safe number has 64 bits
pub integer_of-long : (s : List ℕ) → is_numeral (without_minus s) ≡ true → (IsNumeral 10 (without_leading_sign s) × SFits w64 (signed_digits_value 10 s) → ⊥) → integer_of s ≡ Err IntegerRange
integer_of-long s digits long = by_case (is_safe (signed_digits_value 10 s)) refl
  where
    by_case : (t : Bool) → is_safe (signed_digits_value 10 s) ≡ t → integer_of s ≡ Err IntegerRange
    by_case true safe = absurd (long (behind_sign s (starts_with_minus s) digits, record { sfits = mag-is_safe (signed_digits_value 10 s) safe }))
    by_case false unsafe = integer_of-unsafe s (signed_digits_value 10 s) digits refl unsafe

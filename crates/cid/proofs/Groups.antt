-- Five bytes and eight letters of five bits are one number of 40 bits, and a letter or a byte has the bits that it has in its group alone.
use Rattle.std.proofs.Common.{◌≡◌, ℕ, zero, suc, ◌+◌, ◌-◌, ◌*◌, ◌/◌, ◌%◌, ◌^◌, ◌<◌, true, false, Bool, List, [], ◌∷◌, length, get_or, map, ap, sym, refl, ◌∙◌, arith, inl, inr}
use Rattle.std.specs.Prelude.{nat_lt}
use Rattle.std.specs.Int.{w64, from_be_bytes, to_be_bytes}
use Rattle.std.specs.List.{list_all, range_with_len}
use Rattle.std.proofs.lemmas.Bool.{cases_lt, lt-ltb, ltb-true}
use Rattle.std.proofs.lemmas.List.{get_or_past, get_or_default, get_or-map}
use Rattle.std.proofs.lemmas.List.FromFn.{get_or-map-range_with_len}
use Rattle.std.proofs.lemmas.List.Sums.{AllPass-from_list_all, list_all-from_AllPass}
use Rattle.spec.specs.Reading.{IsBytes}
use Rattle.spec.specs.Cid.{five_bits, letter, alphabet, eight_bits, letter_value}
use Rattle.cid.specs.declared.base32.TheConstants.{VALUES}

abbrev at : List ℕ → ℕ → ℕ
at xs i = get_or xs i 0

-- ---- the table

table : map letter_value (range_with_len 0 256) ≡ VALUES
table = refl

pub value_in_table : (c d : ℕ) → d ≡ c → c < 256 → get_or VALUES d 0 ≡ letter_value c
value_in_table c d is lt = ap (λ (l : List ℕ). get_or l d 0) (sym table) ∙ get_or-map-range_with_len letter_value 0 256 d c 0 (omega arith) (omega arith)

-- ---- values of five bits each

abbrev pub are_values : List ℕ → Bool
are_values values = list_all (λ v. nat_lt v 32) values

pub each_small : (values : List ℕ) → are_values values ≡ true → (i : ℕ) → at values i < 32
each_small values all i =
    elim (cases_lt i (length values)) [
      | inl lt ↦ ltb-true (at values i) 32 (AllPass-from_list_all (λ v. nat_lt v 32) values all i 0 lt)
      | inr le ↦ let e : at values i ≡ 0 = get_or_past values i 0 le in omega arith
    ]

pub all_small : (values : List ℕ) → ((i : ℕ) → i < length values → at values i < 32) → are_values values ≡ true
all_small values small =
    list_all-from_AllPass (λ v. nat_lt v 32) values (λ i d lt. lt-ltb (get_or values i d) 32 (let same : get_or values i d ≡ at values i = get_or_default values i d 0 lt in let under = small i lt in omega arith))

pub eight_small : (values : List ℕ) → length values ≡ 8 → at values 0 < 32 → at values 1 < 32 → at values 2 < 32 → at values 3 < 32 → at values 4 < 32 → at values 5 < 32
    → at values 6 < 32 → at values 7 < 32 → are_values values ≡ true
eight_small values long a b c d e f g h = all_small values (λ i lt. each i (omega arith))
  where
    each : (i : ℕ) → i < 8 → at values i < 32
    each zero lt = a
    each (suc zero) lt = b
    each (suc (suc zero)) lt = c
    each (suc (suc (suc zero))) lt = d
    each (suc (suc (suc (suc zero)))) lt = e
    each (suc (suc (suc (suc (suc zero))))) lt = f
    each (suc (suc (suc (suc (suc (suc zero)))))) lt = g
    each (suc (suc (suc (suc (suc (suc (suc zero))))))) lt = h
    each (suc (suc (suc (suc (suc (suc (suc (suc i)))))))) lt = absurd (omega arith)

pub two_small : (values : List ℕ) → length values ≡ 2 → at values 0 < 32 → at values 1 < 32 → are_values values ≡ true
two_small values long a b = all_small values (λ i lt. each i (omega arith))
  where
    each : (i : ℕ) → i < 2 → at values i < 32
    each zero lt = a
    each (suc zero) lt = b
    each (suc (suc i)) lt = absurd (omega arith)

refused : (whole group : Bool) → (whole ≡ true → group ≡ true) → group ≡ false → whole ≡ false
refused true group passes fails = let passed = passes refl in absurd cc
refused false group passes fails = refl

-- ---- the letters of five bytes

-- what a number of 40 bits has, five bits each
pub bits_are_five : (five : List ℕ) → IsBytes five → length five ≡ 5 → (bits : ℕ)
    → bits ≡ from_be_bytes w64 (0 ∷ 0 ∷ 0 ∷ at five 0 ∷ at five 1 ∷ at five 2 ∷ at five 3 ∷ at five 4 ∷ [])
    → ◌≡◌ {A = List ℕ} (bits / 2 ^ 35 % 32 ∷ bits / 2 ^ 30 % 32 ∷ bits / 2 ^ 25 % 32 ∷ bits / 2 ^ 20 % 32 ∷ bits / 2 ^ 15 % 32 ∷ bits / 2 ^ 10 % 32 ∷ bits / 2 ^ 5 % 32 ∷ bits % 32 ∷ [])
    (map (five_bits five) (range_with_len 0 8))
bits_are_five five fits long bits is =
    let a = fits 0 in
    let b = fits 1 in
    let c = fits 2 in
    let d = fits 3 in
    let e = fits 4 in
    let past : at five 5 ≡ 0 = get_or_past five 5 0 (omega arith) in
    let e0 : bits / 2 ^ 35 % 32 ≡ five_bits five 0 = omega arith in
    let e1 : bits / 2 ^ 30 % 32 ≡ five_bits five 1 = omega arith in
    let e2 : bits / 2 ^ 25 % 32 ≡ five_bits five 2 = omega arith in
    let e3 : bits / 2 ^ 20 % 32 ≡ five_bits five 3 = omega arith in
    let e4 : bits / 2 ^ 15 % 32 ≡ five_bits five 4 = omega arith in
    let e5 : bits / 2 ^ 10 % 32 ≡ five_bits five 5 = omega arith in
    let e6 : bits / 2 ^ 5 % 32 ≡ five_bits five 6 = omega arith in
    let e7 : bits % 32 ≡ five_bits five 7 = omega arith in
    λ k. e0 k ∷ e1 k ∷ e2 k ∷ e3 k ∷ e4 k ∷ e5 k ∷ e6 k ∷ e7 k ∷ []

abbrev pub five_at : List ℕ → ℕ → List ℕ
five_at bytes n = at bytes n ∷ at bytes (n + 1) ∷ at bytes (n + 2) ∷ at bytes (n + 3) ∷ at bytes (n + 4) ∷ []

five-from : (bytes : List ℕ) (i a b r : ℕ) → 5 * i / 8 ≡ a → 5 * i / 8 + 1 ≡ b → 5 * i % 8 ≡ r → (at bytes a * 256 + at bytes b) / 2 ^ (11 - r) % 32 ≡ five_bits bytes i
five-from bytes i a b r ea eb er = sym (λ k. (at bytes (ea k) * 256 + at bytes (eb k)) / 2 ^ (11 - er k) % 32)

pub letters_of_group : (bytes : List ℕ) → IsBytes bytes → (q : ℕ) → map (letter (five_at bytes (5 * q))) (range_with_len 0 8) ≡ map (letter bytes) (range_with_len (8 * q) 8)
letters_of_group bytes fits q =
    let five = five_at bytes (5 * q) in
    let e0 : five_bits five 0 ≡ five_bits bytes (8 * q) = five-from bytes (8 * q) (5 * q) (5 * q + 1) 0 (omega arith) (omega arith) (omega arith) in
    let e1 : five_bits five 1 ≡ five_bits bytes (8 * q + 1) = five-from bytes (8 * q + 1) (5 * q) (5 * q + 1) 5 (omega arith) (omega arith) (omega arith) in
    let e2 : five_bits five 2 ≡ five_bits bytes (8 * q + 1 + 1) = five-from bytes (8 * q + 1 + 1) (5 * q + 1) (5 * q + 2) 2 (omega arith) (omega arith) (omega arith) in
    let e3 : five_bits five 3 ≡ five_bits bytes (8 * q + 1 + 1 + 1) = five-from bytes (8 * q + 1 + 1 + 1) (5 * q + 1) (5 * q + 2) 7 (omega arith) (omega arith) (omega arith) in
    let e4 : five_bits five 4 ≡ five_bits bytes (8 * q + 1 + 1 + 1 + 1) = five-from bytes (8 * q + 1 + 1 + 1 + 1) (5 * q + 2) (5 * q + 3) 4 (omega arith) (omega arith) (omega arith) in
    let e5 : five_bits five 5 ≡ five_bits bytes (8 * q + 1 + 1 + 1 + 1 + 1) = five-from bytes (8 * q + 1 + 1 + 1 + 1 + 1) (5 * q + 3) (5 * q + 4) 1 (omega arith) (omega arith) (omega arith) in
    let e6 : five_bits five 6 ≡ five_bits bytes (8 * q + 1 + 1 + 1 + 1 + 1 + 1) = five-from bytes (8 * q + 1 + 1 + 1 + 1 + 1 + 1) (5 * q + 3) (5 * q + 4) 6 (omega arith) (omega arith) (omega arith) in
    let last = fits (5 * q + 4) in
    let next = fits (5 * q + 5) in
    let alone : five_bits five 7 ≡ (at bytes (5 * q + 4) * 256 + at bytes (5 * q + 5)) / 2 ^ 8 % 32 = omega arith in
    let e7 : five_bits five 7 ≡ five_bits bytes (8 * q + 1 + 1 + 1 + 1 + 1 + 1 + 1) = alone ∙ five-from bytes (8 * q + 1 + 1 + 1 + 1 + 1 + 1 + 1) (5 * q + 4) (5 * q + 5) 3 (omega arith) (omega arith) (omega arith) in
    λ k. at alphabet (e0 k) ∷ at alphabet (e1 k) ∷ at alphabet (e2 k) ∷ at alphabet (e3 k) ∷ at alphabet (e4 k) ∷ at alphabet (e5 k) ∷ at alphabet (e6 k) ∷ at alphabet (e7 k) ∷ []

pub letters_of_last : (bytes : List ℕ) → length bytes ≡ 36 → map (letter (at bytes 35 ∷ [])) (range_with_len 0 2) ≡ map (letter bytes) (range_with_len 56 2)
letters_of_last bytes long =
    let past : 0 ≡ at bytes 36 = sym (get_or_past bytes 36 0 (omega arith)) in
    λ k. at alphabet ((at bytes 35 * 256 + past k) / 2 ^ 11 % 32) ∷ at alphabet ((at bytes 35 * 256 + past k) / 2 ^ 6 % 32) ∷ []

-- ---- the bytes of eight values

-- what a number of 40 bits has, eight bits each
pub bits_are_eight : (values : List ℕ) → are_values values ≡ true → length values ≡ 8 → (bytes : List ℕ) (bits : ℕ) → bytes ≡ to_be_bytes w64 bits
    → bits ≡ ((at values 0 * 2 ^ 15 + at values 1 * 2 ^ 10 + at values 2 * 2 ^ 5 + at values 3) * 2 ^ 20 + (at values 4 * 2 ^ 15 + at values 5 * 2 ^ 10 + at values 6 * 2 ^ 5 + at values 7))
    → ◌≡◌ {A = List ℕ} (at bytes 3 ∷ at bytes 4 ∷ at bytes 5 ∷ at bytes 6 ∷ at bytes 7 ∷ []) (map (eight_bits values) (range_with_len 0 5))
bits_are_eight values fits long bytes bits are is =
    let a = each_small values fits 0 in
    let b = each_small values fits 1 in
    let c = each_small values fits 2 in
    let d = each_small values fits 3 in
    let e = each_small values fits 4 in
    let f = each_small values fits 5 in
    let g = each_small values fits 6 in
    let h = each_small values fits 7 in
    let past : at values 8 ≡ 0 = get_or_past values 8 0 (omega arith) in
    let e0 : at (to_be_bytes w64 bits) 3 ≡ eight_bits values 0 = omega arith in
    let e1 : at (to_be_bytes w64 bits) 4 ≡ eight_bits values 1 = omega arith in
    let e2 : at (to_be_bytes w64 bits) 5 ≡ eight_bits values 2 = omega arith in
    let e3 : at (to_be_bytes w64 bits) 6 ≡ eight_bits values 3 = omega arith in
    let e4 : at (to_be_bytes w64 bits) 7 ≡ eight_bits values 4 = omega arith in
    (λ k. at (are k) 3 ∷ at (are k) 4 ∷ at (are k) 5 ∷ at (are k) 6 ∷ at (are k) 7 ∷ []) ∙ (λ k. e0 k ∷ e1 k ∷ e2 k ∷ e3 k ∷ e4 k ∷ [])

abbrev pub eight_at : List ℕ → ℕ → List ℕ
eight_at xs n = at xs n ∷ at xs (n + 1) ∷ at xs (n + 2) ∷ at xs (n + 3) ∷ at xs (n + 4) ∷ at xs (n + 5) ∷ at xs (n + 6) ∷ at xs (n + 7) ∷ []

eight-from : (values : List ℕ) (j a b c r : ℕ) → 8 * j / 5 ≡ a → 8 * j / 5 + 1 ≡ b → 8 * j / 5 + 2 ≡ c → 8 * j % 5 ≡ r
    → (at values a * 1024 + at values b * 32 + at values c) / 2 ^ (7 - r) % 256 ≡ eight_bits values j
eight-from values j a b c r ea eb ec er = sym (λ k. (at values (ea k) * 1024 + at values (eb k) * 32 + at values (ec k)) / 2 ^ (7 - er k) % 256)

pub bytes_of_group : (values : List ℕ) → ((i : ℕ) → at values i < 32) → (q : ℕ) → map (eight_bits (eight_at values (8 * q))) (range_with_len 0 5) ≡ map (eight_bits values) (range_with_len (5 * q) 5)
bytes_of_group values small q =
    let eight = eight_at values (8 * q) in
    let e0 : eight_bits eight 0 ≡ eight_bits values (5 * q) = eight-from values (5 * q) (8 * q) (8 * q + 1) (8 * q + 2) 0 (omega arith) (omega arith) (omega arith) (omega arith) in
    let e1 : eight_bits eight 1 ≡ eight_bits values (5 * q + 1) = eight-from values (5 * q + 1) (8 * q + 1) (8 * q + 2) (8 * q + 3) 3 (omega arith) (omega arith) (omega arith) (omega arith) in
    let e2 : eight_bits eight 2 ≡ eight_bits values (5 * q + 1 + 1) = eight-from values (5 * q + 1 + 1) (8 * q + 3) (8 * q + 4) (8 * q + 5) 1 (omega arith) (omega arith) (omega arith) (omega arith) in
    let e3 : eight_bits eight 3 ≡ eight_bits values (5 * q + 1 + 1 + 1) = eight-from values (5 * q + 1 + 1 + 1) (8 * q + 4) (8 * q + 5) (8 * q + 6) 4 (omega arith) (omega arith) (omega arith) (omega arith) in
    let next = small (8 * q + 8) in
    let alone : eight_bits eight 4 ≡ (at values (8 * q + 6) * 1024 + at values (8 * q + 7) * 32 + at values (8 * q + 8)) / 2 ^ 5 % 256 = omega arith in
    let e4 : eight_bits eight 4 ≡ eight_bits values (5 * q + 1 + 1 + 1 + 1) = alone ∙ eight-from values (5 * q + 1 + 1 + 1 + 1) (8 * q + 6) (8 * q + 7) (8 * q + 8) 2 (omega arith) (omega arith) (omega arith) (omega arith) in
    λ k. e0 k ∷ e1 k ∷ e2 k ∷ e3 k ∷ e4 k ∷ []

-- eight letters' values, in the words of all letters' values
value_at : (letters : List ℕ) (i v : ℕ) → i < length letters → v ≡ letter_value (at letters i) → v ≡ at (map letter_value letters) i
value_at letters i v lt is = is ∙ sym (get_or-map letter_value letters i 0 0 lt)

pub values_at : (letters : List ℕ) (n a b c d e f g h : ℕ) → n + 7 < length letters → a ≡ letter_value (at letters n) → b ≡ letter_value (at letters (n + 1))
    → c ≡ letter_value (at letters (n + 2)) → d ≡ letter_value (at letters (n + 3)) → e ≡ letter_value (at letters (n + 4)) → f ≡ letter_value (at letters (n + 5))
    → g ≡ letter_value (at letters (n + 6)) → h ≡ letter_value (at letters (n + 7))
    → ◌≡◌ {A = List ℕ} (a ∷ b ∷ c ∷ d ∷ e ∷ f ∷ g ∷ h ∷ []) (eight_at (map letter_value letters) n)
values_at letters n a b c d e f g h lt ea eb ec ed ee ef eg eh =
    let e0 = value_at letters n a (omega arith) ea in
    let e1 = value_at letters (n + 1) b (omega arith) eb in
    let e2 = value_at letters (n + 2) c (omega arith) ec in
    let e3 = value_at letters (n + 3) d (omega arith) ed in
    let e4 = value_at letters (n + 4) e (omega arith) ee in
    let e5 = value_at letters (n + 5) f (omega arith) ef in
    let e6 = value_at letters (n + 6) g (omega arith) eg in
    let e7 = value_at letters (n + 7) h (omega arith) eh in
    λ k. e0 k ∷ e1 k ∷ e2 k ∷ e3 k ∷ e4 k ∷ e5 k ∷ e6 k ∷ e7 k ∷ []

abbrev pub two_at : List ℕ → ℕ → List ℕ
two_at xs n = at xs n ∷ at xs (n + 1) ∷ []

pub last_values_at : (letters : List ℕ) (a b : ℕ) → length letters ≡ 58 → a ≡ letter_value (at letters 56) → b ≡ letter_value (at letters 57)
    → ◌≡◌ {A = List ℕ} (a ∷ b ∷ []) (two_at (map letter_value letters) 56)
last_values_at letters a b long ea eb =
    let e0 = value_at letters 56 a (omega arith) ea in
    let e1 = value_at letters 57 b (omega arith) eb in
    λ k. e0 k ∷ e1 k ∷ []

pub byte_of_last : (values : List ℕ) → length values ≡ 58 → eight_bits (two_at values 56) 0 ≡ eight_bits values 35
byte_of_last values long =
    let past : 0 ≡ at values 58 = sym (get_or_past values 58 0 (omega arith)) in
    λ k. (at values 56 * 1024 + at values 57 * 32 + past k) / 2 ^ 7 % 256

-- a group that isn't in the alphabet
pub group_refused : (values group : List ℕ) (n : ℕ) → group ≡ eight_at values n → are_values group ≡ false → are_values values ≡ false
group_refused values group n is fails =
    refused (are_values values) (are_values (eight_at values n))
    (λ all. let small = each_small values all in eight_small (eight_at values n) refl (small n) (small (n + 1)) (small (n + 2)) (small (n + 3)) (small (n + 4)) (small (n + 5)) (small (n + 6)) (small (n + 7)))
    (ap are_values (sym is) ∙ fails)

pub last_refused : (values group : List ℕ) → group ≡ two_at values 56 → are_values group ≡ false → are_values values ≡ false
last_refused values group is fails =
    refused (are_values values) (are_values (two_at values 56)) (λ all. let small = each_small values all in two_small (two_at values 56) refl (small 56) (small 57)) (ap are_values (sym is) ∙ fails)

-- a group that is
element : (values : List ℕ) (n r : ℕ) → r < 8 → at (eight_at values n) r ≡ at values (n + r)
element values n zero lt = let on : n ≡ n + 0 = omega arith in ap (at values) on
element values n (suc zero) lt = refl
element values n (suc (suc zero)) lt = refl
element values n (suc (suc (suc zero))) lt = refl
element values n (suc (suc (suc (suc zero)))) lt = refl
element values n (suc (suc (suc (suc (suc zero))))) lt = refl
element values n (suc (suc (suc (suc (suc (suc zero)))))) lt = refl
element values n (suc (suc (suc (suc (suc (suc (suc zero))))))) lt = refl
element values n (suc (suc (suc (suc (suc (suc (suc (suc r)))))))) lt = absurd (omega arith)

pub group_passed : (values group : List ℕ) (n whole : ℕ) → whole ≡ n + 8 → group ≡ eight_at values n → are_values group ≡ true → ((k : ℕ) → k < n → at values k < 32)
    → (k : ℕ) → k < whole → at values k < 32
group_passed values group n whole size is passes so_far k lt =
    elim (cases_lt k n) [
      | inl before ↦ so_far k before
      | inr within ↦ let here = each_small (eight_at values n) (ap are_values (sym is) ∙ passes) (k - n) in
          let same = element values n (k - n) (omega arith) in
          let place : at values (n + (k - n)) ≡ at values k = ap (at values) (omega arith) in omega arith
    ]

pub all_passed : (values group : List ℕ) (n : ℕ) → length values ≡ 58 → n ≡ 56 → group ≡ two_at values 56 → are_values group ≡ true → ((k : ℕ) → k < n → at values k < 32)
    → are_values values ≡ true
all_passed values group n long end is passes so_far =
    let last = each_small (two_at values 56) (ap are_values (sym is) ∙ passes) in
    all_small values (λ i lt. elim (cases_lt i 56) [
      | inl before ↦ so_far i (omega arith)
      | inr within ↦ by_place last (i - 56) i (omega arith) (omega arith)
    ])
  where
    by_place : ((i : ℕ) → at (two_at values 56) i < 32) → (r i : ℕ) → r < 2 → i ≡ 56 + r → at values i < 32
    by_place last zero i lt same = let h = last 0 in let e : at values i ≡ at values 56 = ap (at values) same in omega arith
    by_place last (suc zero) i lt same = let h = last 1 in let e : at values i ≡ at values 57 = ap (at values) same in omega arith
    by_place last (suc (suc r)) i lt same = absurd (omega arith)

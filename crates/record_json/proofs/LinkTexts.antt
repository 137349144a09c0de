-- The text of a CID of any length: it is UTF-8, and names that CID. Which bits of which bytes a letter has, and which bits of
-- which letters a byte has, is shown in `spec`, position by position.
use Rattle.std.proofs.Common.{◌≡◌, ℕ, zero, suc, ◌+◌, ◌-◌, ◌*◌, ◌/◌, ◌%◌, ◌^◌, ◌<◌, ◌≤◌, true, cond, ◌&&◌, ltb, List, [], ◌∷◌, length, get_or, map, Some, None, refl, sym, ap, ◌∙◌, arith, inl, inr}
use Rattle.std.specs.Str.{IsAscii, IsUtf8}
use Rattle.std.specs.List.{range_with_len}
use Rattle.std.specs.Str.{bytes_eq}
use Rattle.std.proofs.Math.Nat.{zero-div}
use Rattle.std.proofs.lemmas.Bool.{cases_lt, ltb-true}
use Rattle.std.proofs.lemmas.List.{get_or-map, get_or_past, length-map}
use Rattle.std.proofs.lemmas.List.FromFn.{get_or-map-range_with_len, length-map-range_with_len}
use Rattle.std.proofs.lemmas.Grind.{same_number_lists}
use Rattle.std.proofs.lemmas.Slice.Eq.{bytes_eq-Decides}
use Rattle.std.proofs.lemmas.Str.{IsUtf8-from_ascii}
use Rattle.spec.specs.Reading.{IsBytes}
use Rattle.spec.specs.Cid.{alphabet, five_bits, letter, base32, text, eight_bits, letter_value, letter_values, is_version_1}
use Rattle.spec.proofs.CidTexts.{byte, AreFive, five_0, five_1, five_2, five_3, five_4, five_5, five_6, five_7, eight_0, eight_1, eight_2, eight_3, eight_4, checked, value_of_letter, place_5}
use Rattle.record_json.specs.LinkText.{bytes_of_letters, link_of_text}

-- ---- UTF-8

IsAscii-map : (f : ℕ → ℕ) → ((x : ℕ) → f x < 128) → (xs : List ℕ) → IsAscii (map f xs)
IsAscii-map f small [] i = omega arith
IsAscii-map f small (x ∷ xs) zero = small x
IsAscii-map f small (x ∷ xs) (suc i) = IsAscii-map f small xs i

IsAscii-cons : (x : ℕ) (xs : List ℕ) → x < 128 → IsAscii xs → IsAscii (x ∷ xs)
IsAscii-cons x xs small all zero = small
IsAscii-cons x xs small all (suc i) = all i

small_letter : (x : ℕ) → x < 32 → get_or alphabet x 0 < 128
small_letter x lt = ltb-true (get_or alphabet x 0) 128 (checked (λ d. ltb (get_or alphabet d 0) 128) 0 32 refl x (omega arith) (omega arith))

pub IsUtf8-text : (c : List ℕ) → IsUtf8 (text c)
IsUtf8-text c =
    let letters : (i : ℕ) → letter c i < 128 = λ i. small_letter (five_bits c i) (omega arith) in
    IsUtf8-from_ascii (text c) (IsAscii-cons 98 _ (omega arith) (IsAscii-map (letter c) letters _))

-- ---- from a CID's text

-- letters' values that are the bits of these bytes, also behind the last
abbrev AreBitsOf : List ℕ → List ℕ → Type 0
AreBitsOf c values = (i : ℕ) → byte values i ≡ five_bits c i

AreFive-bits : (c values : List ℕ) → AreBitsOf c values → AreFive values
AreFive-bits c values are i = let e = are i in let five : five_bits c i < 32 = omega arith in omega arith

module _ (c values : List ℕ) (fits : IsBytes c) (are : AreBitsOf c values) where
  eight-of_five : (q s : ℕ) → s < 5 → eight_bits values (5 * q + s) ≡ byte c (5 * q + s)
  eight-of_five q zero small =
      let five = AreFive-bits c values are in
      let a = are (8 * q) ∙ five_0 c fits q in
      let b = are (8 * q + 1) ∙ five_1 c fits q in
      let y = fits (5 * q + 1) in
      let same : 5 * q ≡ 5 * q + 0 = omega arith in
      ap (eight_bits values) (sym same) ∙ eight_0 values five q ∙ (let e : byte values (8 * q) * 8 + byte values (8 * q + 1) / 4 ≡ byte c (5 * q) = omega arith in e) ∙ ap (byte c) same
  eight-of_five q (suc zero) small =
      let five = AreFive-bits c values are in
      let a = are (8 * q + 1) ∙ five_1 c fits q in
      let b = are (8 * q + 2) ∙ five_2 c fits q in
      let d = are (8 * q + 3) ∙ five_3 c fits q in
      let x = fits (5 * q + 1) in
      let y = fits (5 * q + 2) in
      eight_1 values five q ∙ omega arith
  eight-of_five q (suc (suc zero)) small =
      let five = AreFive-bits c values are in
      let a = are (8 * q + 3) ∙ five_3 c fits q in
      let b = are (8 * q + 4) ∙ five_4 c fits q in
      let x = fits (5 * q + 2) in
      let y = fits (5 * q + 3) in
      eight_2 values five q ∙ omega arith
  eight-of_five q (suc (suc (suc zero))) small =
      let five = AreFive-bits c values are in
      let a = are (8 * q + 4) ∙ five_4 c fits q in
      let b = are (8 * q + 5) ∙ five_5 c fits q in
      let d = are (8 * q + 6) ∙ five_6 c fits q in
      let x = fits (5 * q + 3) in
      let y = fits (5 * q + 4) in
      eight_3 values five q ∙ omega arith
  eight-of_five q (suc (suc (suc (suc zero)))) small =
      let five = AreFive-bits c values are in
      let a = are (8 * q + 6) ∙ five_6 c fits q in
      let b = are (8 * q + 7) ∙ five_7 c fits q in
      let x = fits (5 * q + 4) in
      eight_4 values five q ∙ omega arith
  eight-of_five q (suc (suc (suc (suc (suc s))))) small = absurd (omega arith)

  bytes_of_bits : (n : ℕ) → n ≡ length c → map (eight_bits values) (range_with_len 0 n) ≡ c
  bytes_of_bits n long =
      same_number_lists (map (eight_bits values) (range_with_len 0 n)) c (length-map-range_with_len (eight_bits values) 0 n ∙ long)
      (λ k lt.
      let under : k < n = omega (arith, length-map-range_with_len (eight_bits values) 0 n) in
      let p = place_5 k in
      let is = p.is in
      get_or-map-range_with_len (eight_bits values) 0 n k k 0 under (omega arith)
      ∙ ap (eight_bits values) is ∙ eight-of_five p.group p.within p.small ∙ ap (byte c) (sym is))

-- behind the last byte all bits are 0
bits_past : (c : List ℕ) (i : ℕ) → (8 * length c + 4) / 5 ≤ i → five_bits c i ≡ 0
bits_past c i past =
    let a : byte c (5 * i / 8) ≡ 0 = get_or_past c (5 * i / 8) 0 (omega arith) in
    let b : byte c (5 * i / 8 + 1) ≡ 0 = get_or_past c (5 * i / 8 + 1) 0 (omega arith) in
    rw (a, b, zero-div (2 ^ (11 - 5 * i % 8))) refl

AreBits-text : (c : List ℕ) → AreBitsOf c (letter_values (text c))
AreBits-text c i =
    let n = (8 * length c + 4) / 5 in
    let letters : List ℕ = map (letter c) (range_with_len 0 n) in
    let many : length letters ≡ n = length-map-range_with_len (letter c) 0 n in
    elim (cases_lt i n) [
      | inl lt ↦
          let five : five_bits c i < 32 = omega arith in
          get_or-map letter_value letters i 0 0 (omega arith) ∙ ap letter_value (get_or-map-range_with_len (letter c) 0 n i i 0 lt (omega arith)) ∙ value_of_letter (five_bits c i) five
      | inr le ↦ get_or_past (map letter_value letters) i 0 (omega (arith, length-map letters letter_value)) ∙ sym (bits_past c i le)
    ]

pub bytes_of_letters-text : (c : List ℕ) → IsBytes c → bytes_of_letters (text c) ≡ c
bytes_of_letters-text c fits =
    let n = (8 * length c + 4) / 5 in
    bytes_of_bits c (letter_values (text c)) fits (AreBits-text c) (5 * length (base32 c) / 8) (omega (arith, length-map-range_with_len (letter c) 0 n))

both_pass : (c d : List ℕ) (s : List ℕ) → d ≡ c → s ≡ text c → is_version_1 c ≡ true → cond (bytes_eq (text d) s && is_version_1 d) (Some d) None ≡ Some c
both_pass c d s back is first =
    let same : bytes_eq (text c) s ≡ true = (bytes_eq-Decides (text c) s).1 (sym is) in
    ap (λ (x : List ℕ). cond (bytes_eq (text x) s && is_version_1 x) (Some x) None) back ∙ (let e : cond (bytes_eq (text c) s && is_version_1 c) (Some c) None ≡ Some c = rw (same, first) refl in e)

pub link_of_text-text : (c : List ℕ) → IsBytes c → is_version_1 c ≡ true → link_of_text (text c) ≡ Some c
link_of_text-text c fits first = both_pass c (bytes_of_letters (text c)) (text c) (bytes_of_letters-text c fits) refl first

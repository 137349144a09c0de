-- A CID is read from its text, and what is read from a text has that text. Five bytes are eight letters: position by position
-- it is shown which bits of which bytes a letter has, and which bits of which letters a byte has.
use Rattle.std.proofs.Common.{◌≡◌, ℕ, zero, suc, ◌+◌, ◌-◌, ◌*◌, ◌/◌, ◌%◌, ◌^◌, ◌<◌, ◌≤◌, Bool, true, false, cond, ◌&&◌, eqb, ltb, List, [], ◌∷◌, length, get_or, take, map, Result, Ok, refl, sym, ap, subst, ◌∙◌, arith, inl, inr}
use Rattle.std.specs.List.{list_all, range_with_len}
use Rattle.std.specs.Str.{bytes_eq}
use Rattle.std.proofs.lemmas.Bool.{cases_lt, lt-ltb, ltb-true, eqb-true, eq-eqb}
use Rattle.std.proofs.lemmas.List.{get_or-map, get_or_past, length-map}
use Rattle.std.proofs.lemmas.List.FromFn.{get_or-map-range_with_len, length-map-range_with_len, get_or-range_with_len, length-range_with_len}
use Rattle.std.proofs.lemmas.List.Sums.{AllPass-from_list_all, list_all-from_AllPass}
use Rattle.std.proofs.lemmas.Grind.{same_number_lists}
use Rattle.spec.specs.Reading.{IsBytes}
use Rattle.spec.specs.Cid.{prefix, is_own_cid, alphabet, five_bits, letter, base32, text, eight_bits, CidFault, letter_value, letter_values, bytes_of_text, cid_of_text}
use Rattle.spec.proofs.Bools.{both, and}
use Rattle.spec.proofs.Taking.{ensure_ok, ok_is}

abbrev pub byte : List ℕ → ℕ → ℕ
byte bytes i = get_or bytes i 0

-- ---- the bits of a letter

-- five bits from a place on, in two bytes
five-from : (bytes : List ℕ) (i a b r : ℕ) → 5 * i / 8 ≡ a → 5 * i / 8 + 1 ≡ b → 5 * i % 8 ≡ r → five_bits bytes i ≡ (byte bytes a * 256 + byte bytes b) / 2 ^ (11 - r) % 32
five-from bytes i a b r ea eb er = λ k. (byte bytes (ea k) * 256 + byte bytes (eb k)) / 2 ^ (11 - er k) % 32

module _ (bytes : List ℕ) (fits : IsBytes bytes) where
  pub five_0 : (q : ℕ) → five_bits bytes (8 * q) ≡ byte bytes (5 * q) / 8
  five_0 q =
      let x = fits (5 * q) in
      let y = fits (5 * q + 1) in
      five-from bytes (8 * q) (5 * q) (5 * q + 1) 0 (omega arith) (omega arith) (omega arith) ∙ omega arith

  pub five_1 : (q : ℕ) → five_bits bytes (8 * q + 1) ≡ byte bytes (5 * q) % 8 * 4 + byte bytes (5 * q + 1) / 64
  five_1 q =
      let x = fits (5 * q) in
      let y = fits (5 * q + 1) in
      five-from bytes (8 * q + 1) (5 * q) (5 * q + 1) 5 (omega arith) (omega arith) (omega arith) ∙ omega arith

  pub five_2 : (q : ℕ) → five_bits bytes (8 * q + 2) ≡ byte bytes (5 * q + 1) / 2 % 32
  five_2 q =
      let x = fits (5 * q + 1) in
      let y = fits (5 * q + 2) in
      five-from bytes (8 * q + 2) (5 * q + 1) (5 * q + 2) 2 (omega arith) (omega arith) (omega arith) ∙ omega arith

  pub five_3 : (q : ℕ) → five_bits bytes (8 * q + 3) ≡ byte bytes (5 * q + 1) % 2 * 16 + byte bytes (5 * q + 2) / 16
  five_3 q =
      let x = fits (5 * q + 1) in
      let y = fits (5 * q + 2) in
      five-from bytes (8 * q + 3) (5 * q + 1) (5 * q + 2) 7 (omega arith) (omega arith) (omega arith) ∙ omega arith

  pub five_4 : (q : ℕ) → five_bits bytes (8 * q + 4) ≡ byte bytes (5 * q + 2) % 16 * 2 + byte bytes (5 * q + 3) / 128
  five_4 q =
      let x = fits (5 * q + 2) in
      let y = fits (5 * q + 3) in
      five-from bytes (8 * q + 4) (5 * q + 2) (5 * q + 3) 4 (omega arith) (omega arith) (omega arith) ∙ omega arith

  pub five_5 : (q : ℕ) → five_bits bytes (8 * q + 5) ≡ byte bytes (5 * q + 3) / 4 % 32
  five_5 q =
      let x = fits (5 * q + 3) in
      let y = fits (5 * q + 4) in
      five-from bytes (8 * q + 5) (5 * q + 3) (5 * q + 4) 1 (omega arith) (omega arith) (omega arith) ∙ omega arith

  pub five_6 : (q : ℕ) → five_bits bytes (8 * q + 6) ≡ byte bytes (5 * q + 3) % 4 * 8 + byte bytes (5 * q + 4) / 32
  five_6 q =
      let x = fits (5 * q + 3) in
      let y = fits (5 * q + 4) in
      five-from bytes (8 * q + 6) (5 * q + 3) (5 * q + 4) 6 (omega arith) (omega arith) (omega arith) ∙ omega arith

  pub five_7 : (q : ℕ) → five_bits bytes (8 * q + 7) ≡ byte bytes (5 * q + 4) % 32
  five_7 q =
      let x = fits (5 * q + 4) in
      let y = fits (5 * q + 5) in
      five-from bytes (8 * q + 7) (5 * q + 4) (5 * q + 5) 3 (omega arith) (omega arith) (omega arith) ∙ omega arith

-- ---- the bits of a byte

-- eight bits from a place on, in three letters' values
eight-from : (values : List ℕ) (j a b c r : ℕ) → 8 * j / 5 ≡ a → 8 * j / 5 + 1 ≡ b → 8 * j / 5 + 2 ≡ c → 8 * j % 5 ≡ r
    → eight_bits values j ≡ (byte values a * 1024 + byte values b * 32 + byte values c) / 2 ^ (7 - r) % 256
eight-from values j a b c r ea eb ec er = λ k. (byte values (ea k) * 1024 + byte values (eb k) * 32 + byte values (ec k)) / 2 ^ (7 - er k) % 256

abbrev pub AreFive : List ℕ → Type 0
AreFive values = (i : ℕ) → byte values i < 32

module _ (values : List ℕ) (fits : AreFive values) where
  pub eight_0 : (q : ℕ) → eight_bits values (5 * q) ≡ byte values (8 * q) * 8 + byte values (8 * q + 1) / 4
  eight_0 q =
      let x = fits (8 * q) in
      let y = fits (8 * q + 1) in
      let z = fits (8 * q + 2) in
      eight-from values (5 * q) (8 * q) (8 * q + 1) (8 * q + 2) 0 (omega arith) (omega arith) (omega arith) (omega arith) ∙ omega arith

  pub eight_1 : (q : ℕ) → eight_bits values (5 * q + 1) ≡ byte values (8 * q + 1) % 4 * 64 + byte values (8 * q + 2) * 2 + byte values (8 * q + 3) / 16
  eight_1 q =
      let x = fits (8 * q + 1) in
      let y = fits (8 * q + 2) in
      let z = fits (8 * q + 3) in
      eight-from values (5 * q + 1) (8 * q + 1) (8 * q + 2) (8 * q + 3) 3 (omega arith) (omega arith) (omega arith) (omega arith) ∙ omega arith

  pub eight_2 : (q : ℕ) → eight_bits values (5 * q + 2) ≡ byte values (8 * q + 3) % 16 * 16 + byte values (8 * q + 4) / 2
  eight_2 q =
      let x = fits (8 * q + 3) in
      let y = fits (8 * q + 4) in
      let z = fits (8 * q + 5) in
      eight-from values (5 * q + 2) (8 * q + 3) (8 * q + 4) (8 * q + 5) 1 (omega arith) (omega arith) (omega arith) (omega arith) ∙ omega arith

  pub eight_3 : (q : ℕ) → eight_bits values (5 * q + 3) ≡ byte values (8 * q + 4) % 2 * 128 + byte values (8 * q + 5) * 4 + byte values (8 * q + 6) / 8
  eight_3 q =
      let x = fits (8 * q + 4) in
      let y = fits (8 * q + 5) in
      let z = fits (8 * q + 6) in
      eight-from values (5 * q + 3) (8 * q + 4) (8 * q + 5) (8 * q + 6) 4 (omega arith) (omega arith) (omega arith) (omega arith) ∙ omega arith

  pub eight_4 : (q : ℕ) → eight_bits values (5 * q + 4) ≡ byte values (8 * q + 6) % 8 * 32 + byte values (8 * q + 7)
  eight_4 q =
      let x = fits (8 * q + 6) in
      let y = fits (8 * q + 7) in
      let z = fits (8 * q + 8) in
      eight-from values (5 * q + 4) (8 * q + 6) (8 * q + 7) (8 * q + 8) 2 (omega arith) (omega arith) (omega arith) (omega arith) ∙ omega arith

-- ---- the alphabet, letter by letter

-- what a test shows of each of n numbers from a on
pub checked : (p : ℕ → Bool) (a n : ℕ) → list_all p (range_with_len a n) ≡ true → (x : ℕ) → a ≤ x → x < a + n → p x ≡ true
checked p a n h x le lt =
    let within : x - a < n = omega arith in
    let back : a + (x - a) ≡ x = omega arith in
    let same : get_or (range_with_len a n) (x - a) 0 ≡ x = get_or-range_with_len a n (x - a) 0 within ∙ back in
    subst (λ (y : ℕ). p y ≡ true) same (AllPass-from_list_all p (range_with_len a n) h (x - a) 0 (omega (arith, length-range_with_len a n)))

pub value_of_letter : (x : ℕ) → x < 32 → letter_value (get_or alphabet x 0) ≡ x
value_of_letter x lt = eqb-true (letter_value (get_or alphabet x 0)) x (checked (λ d. eqb (letter_value (get_or alphabet d 0)) d) 0 32 refl x (omega arith) (omega arith))

small_letter : (c : ℕ) → 96 < c → c < 123 → get_or alphabet (c - 97) 0 ≡ c
small_letter c above under = eqb-true (get_or alphabet (c - 97) 0) c (checked (λ d. eqb (get_or alphabet (d - 97) 0) d) 97 26 refl c (omega arith) (omega arith))

digit : (c : ℕ) → 49 < c → c < 56 → get_or alphabet (c - 24) 0 ≡ c
digit c above under = eqb-true (get_or alphabet (c - 24) 0) c (checked (λ d. eqb (get_or alphabet (d - 24) 0) d) 50 6 refl c (omega arith) (omega arith))

letter_of_value : (c : ℕ) → letter_value c < 32 → get_or alphabet (letter_value c) 0 ≡ c
letter_of_value c lt = by_case (ltb 96 c && ltb c 123) (ltb 49 c && ltb c 56) refl refl lt
  where
    by_case : (s t : Bool) → (ltb 96 c && ltb c 123) ≡ s → (ltb 49 c && ltb c 56) ≡ t → cond s (c - 97) (cond t (c - 24) 32) < 32
        → get_or alphabet (cond s (c - 97) (cond t (c - 24) 32)) 0 ≡ c
    by_case true t small number under = let p = both (ltb 96 c) (ltb c 123) small in small_letter c (ltb-true 96 c p.0) (ltb-true c 123 p.1)
    by_case false true small number under = let p = both (ltb 49 c) (ltb c 56) number in digit c (ltb-true 49 c p.0) (ltb-true c 56 p.1)
    by_case false false small number under = absurd (omega arith)

-- ---- from a CID's text

-- a place among the letters, and among the bytes, by its group
pub record Place (width i : ℕ) : Type 0 where
  pub group : ℕ
  pub within : ℕ
  pub small : within < width
  pub is : i ≡ width * group + within

pub place_5 : (i : ℕ) → Place 5 i
place_5 i = record { group = i / 5; within = i % 5; small = omega arith; is = omega arith }

place_8 : (i : ℕ) → Place 8 i
place_8 i = record { group = i / 8; within = i % 8; small = omega arith; is = omega arith }

-- the values of a CID's letters
abbrev values_of : List ℕ → List ℕ
values_of c = map (five_bits c) (range_with_len 0 58)

value_at : (c : List ℕ) (i : ℕ) → i < 58 → byte (values_of c) i ≡ five_bits c i
value_at c i lt = get_or-map-range_with_len (five_bits c) 0 58 i i 0 lt (omega arith)

AreFive-values : (c : List ℕ) → AreFive (values_of c)
AreFive-values c i =
    elim (cases_lt i 58) [
      | inl lt ↦ let e = value_at c i lt in let five : five_bits c i < 32 = omega arith in omega arith
      | inr le ↦ let e : byte (values_of c) i ≡ 0 = get_or_past (values_of c) i 0 (omega (arith, length-map-range_with_len (five_bits c) 0 58)) in omega arith
    ]

eight-of_five : (c : List ℕ) → IsBytes c → (q s : ℕ) → s < 5 → 5 * q + s < 36 → eight_bits (values_of c) (5 * q + s) ≡ byte c (5 * q + s)
eight-of_five c fits q zero small lt =
    let five = AreFive-values c in
    let a = value_at c (8 * q) (omega arith) ∙ five_0 c fits q in
    let b = value_at c (8 * q + 1) (omega arith) ∙ five_1 c fits q in
    let y = fits (5 * q + 1) in
    let same : 5 * q ≡ 5 * q + 0 = omega arith in
    ap (eight_bits (values_of c)) (sym same) ∙ eight_0 (values_of c) five q ∙ (let e : byte (values_of c) (8 * q) * 8 + byte (values_of c) (8 * q + 1) / 4 ≡ byte c (5 * q) = omega arith in e) ∙ ap (byte c) same
eight-of_five c fits q (suc zero) small lt =
    let five = AreFive-values c in
    let a = value_at c (8 * q + 1) (omega arith) ∙ five_1 c fits q in
    let b = value_at c (8 * q + 2) (omega arith) ∙ five_2 c fits q in
    let d = value_at c (8 * q + 3) (omega arith) ∙ five_3 c fits q in
    let x = fits (5 * q + 1) in
    let y = fits (5 * q + 2) in
    eight_1 (values_of c) five q ∙ omega arith
eight-of_five c fits q (suc (suc zero)) small lt =
    let five = AreFive-values c in
    let a = value_at c (8 * q + 3) (omega arith) ∙ five_3 c fits q in
    let b = value_at c (8 * q + 4) (omega arith) ∙ five_4 c fits q in
    let x = fits (5 * q + 2) in
    let y = fits (5 * q + 3) in
    eight_2 (values_of c) five q ∙ omega arith
eight-of_five c fits q (suc (suc (suc zero))) small lt =
    let five = AreFive-values c in
    let a = value_at c (8 * q + 4) (omega arith) ∙ five_4 c fits q in
    let b = value_at c (8 * q + 5) (omega arith) ∙ five_5 c fits q in
    let d = value_at c (8 * q + 6) (omega arith) ∙ five_6 c fits q in
    let x = fits (5 * q + 3) in
    let y = fits (5 * q + 4) in
    eight_3 (values_of c) five q ∙ omega arith
eight-of_five c fits q (suc (suc (suc (suc zero)))) small lt =
    let five = AreFive-values c in
    let a = value_at c (8 * q + 6) (omega arith) ∙ five_6 c fits q in
    let b = value_at c (8 * q + 7) (omega arith) ∙ five_7 c fits q in
    let x = fits (5 * q + 4) in
    eight_4 (values_of c) five q ∙ omega arith
eight-of_five c fits q (suc (suc (suc (suc (suc s))))) small lt = absurd (omega arith)

bytes_of_values : (c : List ℕ) → length c ≡ 36 → IsBytes c → map (eight_bits (values_of c)) (range_with_len 0 36) ≡ c
bytes_of_values c long fits =
    same_number_lists (map (eight_bits (values_of c)) (range_with_len 0 36)) c (length-map-range_with_len (eight_bits (values_of c)) 0 36 ∙ sym long)
    (λ k lt.
    let under : k < 36 = omega (arith, length-map-range_with_len (eight_bits (values_of c)) 0 36) in
    let p = place_5 k in
    let is = p.is in
    get_or-map-range_with_len (eight_bits (values_of c)) 0 36 k k 0 under (omega arith)
    ∙ ap (eight_bits (values_of c)) is ∙ eight-of_five c fits p.group p.within p.small (omega arith) ∙ ap (byte c) (sym is))

letters : (c : List ℕ) → length c ≡ 36 → base32 c ≡ map (letter c) (range_with_len 0 58)
letters c long = ap (λ (n : ℕ). map (letter c) (range_with_len 0 ((8 * n + 4) / 5))) long

length-text : (c : List ℕ) → length c ≡ 36 → length (text c) ≡ 59
length-text c long = ap (λ (t : List ℕ). suc (length t)) (letters c long) ∙ ap suc (length-map-range_with_len (letter c) 0 58)

values-text : (c : List ℕ) → length c ≡ 36 → letter_values (text c) ≡ values_of c
values-text c long =
    ap (map letter_value) (letters c long)
    ∙ same_number_lists (map letter_value (map (letter c) (range_with_len 0 58))) (values_of c)
    (length-map (map (letter c) (range_with_len 0 58)) letter_value ∙ length-map-range_with_len (letter c) 0 58 ∙ sym (length-map-range_with_len (five_bits c) 0 58))
    (λ k lt.
    let under : k < 58 = omega (arith, length-map (map (letter c) (range_with_len 0 58)) letter_value, length-map-range_with_len (letter c) 0 58) in
    let five : five_bits c k < 32 = omega arith in
    get_or-map letter_value (map (letter c) (range_with_len 0 58)) k 0 0 (omega (arith, length-map-range_with_len (letter c) 0 58))
    ∙ ap letter_value (get_or-map-range_with_len (letter c) 0 58 k k 0 under (omega arith))
    ∙ value_of_letter (five_bits c k) five ∙ sym (value_at c k under))

-- what passes the five tests is read
read_text : (s : List ℕ) → eqb (length s) 59 ≡ true → eqb (get_or s 0 0) 98 ≡ true → list_all (λ v. ltb v 32) (letter_values s) ≡ true → eqb (get_or (letter_values s) 57 0 % 4) 0 ≡ true
    → bytes_eq (take 4 (bytes_of_text s)) prefix ≡ true → cid_of_text s ≡ Ok (bytes_of_text s)
unfolding cid_of_text
read_text s long first all bits profile = rw (long, first, all, bits, profile) refl

last_bits : (c : List ℕ) → length c ≡ 36 → IsBytes c → byte (values_of c) 57 % 4 ≡ 0
last_bits c long fits =
    let past : byte c 36 ≡ 0 = get_or_past c 36 0 (omega arith) in
    let e = value_at c 57 (omega arith) ∙ five_1 c fits 7 in
    omega arith

pub cid_of_text-text : (c : List ℕ) → IsBytes c → is_own_cid c ≡ true → cid_of_text (text c) ≡ Ok c
cid_of_text-text c fits own =
    let p = both (eqb (length c) 36) (bytes_eq (take 4 c) prefix) own in
    let long : length c ≡ 36 = eqb-true (length c) 36 p.0 in
    let values : letter_values (text c) ≡ values_of c = values-text c long in
    let back : bytes_of_text (text c) ≡ c = ap (λ (v : List ℕ). map (eight_bits v) (range_with_len 0 36)) values ∙ bytes_of_values c long fits in
    let all : list_all (λ v. ltb v 32) (values_of c) ≡ true =
    list_all-from_AllPass (λ v. ltb v 32) (values_of c) (λ i d lt.
    let under : i < 58 = omega (arith, length-map-range_with_len (five_bits c) 0 58) in
    let same = get_or-map-range_with_len (five_bits c) 0 58 i i d under (omega arith) in
    let five : five_bits c i < 32 = omega arith in
    lt-ltb _ _ (subst (λ (x : ℕ). x < 32) (sym same) five)) in
    read_text (text c)
    (eq-eqb (length (text c)) 59 (length-text c long))
    refl
    (ap (list_all (λ v. ltb v 32)) values ∙ all)
    (eq-eqb (get_or (letter_values (text c)) 57 0 % 4) 0 (ap (λ (v : List ℕ). get_or v 57 0 % 4) values ∙ last_bits c long fits))
    (ap (λ (b : List ℕ). bytes_eq (take 4 b) prefix) back ∙ p.1)
    ∙ ap (λ (b : List ℕ). read_cid b) back
  where
    read_cid : List ℕ → Result (List ℕ) CidFault
    read_cid b = Ok b

-- ---- to a CID's text

-- the bytes of some letters' values
abbrev bytes_of : List ℕ → List ℕ
bytes_of values = map (eight_bits values) (range_with_len 0 36)

byte_at : (values : List ℕ) (j : ℕ) → j < 36 → byte (bytes_of values) j ≡ eight_bits values j
byte_at values j lt = get_or-map-range_with_len (eight_bits values) 0 36 j j 0 lt (omega arith)

byte_past : (values : List ℕ) (j : ℕ) → 36 ≤ j → byte (bytes_of values) j ≡ 0
byte_past values j le = get_or_past (bytes_of values) j 0 (omega (arith, length-map-range_with_len (eight_bits values) 0 36))

IsBytes-of : (values : List ℕ) → IsBytes (bytes_of values)
IsBytes-of values j =
    elim (cases_lt j 36) [
      | inl lt ↦ let e = byte_at values j lt in let b : eight_bits values j < 256 = omega arith in omega arith
      | inr le ↦ let e = byte_past values j le in omega arith
    ]

module _ (v : List ℕ) (five : AreFive v) (ends : byte v 57 % 4 ≡ 0) where
  five-of_eight : (q t : ℕ) → t < 8 → 8 * q + t < 58 → five_bits (bytes_of v) (8 * q + t) ≡ byte v (8 * q + t)
  five-of_eight q zero small lt =
      let a = byte_at v (5 * q) (omega arith) ∙ eight_0 v five q in
      let y = five (8 * q + 1) in
      let same : 8 * q ≡ 8 * q + 0 = omega arith in
      ap (five_bits (bytes_of v)) (sym same) ∙ five_0 (bytes_of v) (IsBytes-of v) q ∙ (let e : byte (bytes_of v) (5 * q) / 8 ≡ byte v (8 * q) = omega arith in e) ∙ ap (byte v) same
  five-of_eight q (suc zero) small lt =
      elim (cases_lt q 7) [
        | inl inner ↦
            let a = byte_at v (5 * q) (omega arith) ∙ eight_0 v five q in
            let b = byte_at v (5 * q + 1) (omega arith) ∙ eight_1 v five q in
            let x = five (8 * q + 1) in
            let y = five (8 * q + 2) in
            let z = five (8 * q + 3) in
            five_1 (bytes_of v) (IsBytes-of v) q ∙ omega arith
        | inr last ↦
            let is : q ≡ 7 = omega arith in
            let a = byte_at v 35 (omega arith) ∙ eight_0 v five 7 in
            let b = byte_past v 36 (omega arith) in
            let x = five 57 in
            ap (λ (g : ℕ). five_bits (bytes_of v) (8 * g + 1)) is
            ∙ five_1 (bytes_of v) (IsBytes-of v) 7
            ∙ (let e : byte (bytes_of v) 35 % 8 * 4 + byte (bytes_of v) 36 / 64 ≡ byte v 57 = omega arith in e)
            ∙ ap (λ (g : ℕ). byte v (8 * g + 1)) (sym is)
      ]
  five-of_eight q (suc (suc zero)) small lt =
      let b = byte_at v (5 * q + 1) (omega arith) ∙ eight_1 v five q in
      let x = five (8 * q + 1) in
      let y = five (8 * q + 2) in
      let z = five (8 * q + 3) in
      five_2 (bytes_of v) (IsBytes-of v) q ∙ omega arith
  five-of_eight q (suc (suc (suc zero))) small lt =
      let b = byte_at v (5 * q + 1) (omega arith) ∙ eight_1 v five q in
      let d = byte_at v (5 * q + 2) (omega arith) ∙ eight_2 v five q in
      let x = five (8 * q + 3) in
      let y = five (8 * q + 4) in
      five_3 (bytes_of v) (IsBytes-of v) q ∙ omega arith
  five-of_eight q (suc (suc (suc (suc zero)))) small lt =
      let b = byte_at v (5 * q + 2) (omega arith) ∙ eight_2 v five q in
      let d = byte_at v (5 * q + 3) (omega arith) ∙ eight_3 v five q in
      let x = five (8 * q + 4) in
      let y = five (8 * q + 5) in
      let z = five (8 * q + 6) in
      five_4 (bytes_of v) (IsBytes-of v) q ∙ omega arith
  five-of_eight q (suc (suc (suc (suc (suc zero))))) small lt =
      let d = byte_at v (5 * q + 3) (omega arith) ∙ eight_3 v five q in
      let x = five (8 * q + 4) in
      let y = five (8 * q + 5) in
      let z = five (8 * q + 6) in
      five_5 (bytes_of v) (IsBytes-of v) q ∙ omega arith
  five-of_eight q (suc (suc (suc (suc (suc (suc zero)))))) small lt =
      let b = byte_at v (5 * q + 3) (omega arith) ∙ eight_3 v five q in
      let d = byte_at v (5 * q + 4) (omega arith) ∙ eight_4 v five q in
      let x = five (8 * q + 6) in
      let y = five (8 * q + 7) in
      five_6 (bytes_of v) (IsBytes-of v) q ∙ omega arith
  five-of_eight q (suc (suc (suc (suc (suc (suc (suc zero))))))) small lt =
      let d = byte_at v (5 * q + 4) (omega arith) ∙ eight_4 v five q in
      let y = five (8 * q + 7) in
      five_7 (bytes_of v) (IsBytes-of v) q ∙ omega arith
  five-of_eight q (suc (suc (suc (suc (suc (suc (suc (suc t)))))))) small lt = absurd (omega arith)

  five-back : (i : ℕ) → i < 58 → five_bits (bytes_of v) i ≡ byte v i
  five-back i lt =
      let p = place_8 i in
      let is = p.is in
      ap (five_bits (bytes_of v)) is ∙ five-of_eight p.group p.within p.small (omega arith) ∙ ap (byte v) (sym is)

-- the tests that a text passed
record Passed (s c : List ℕ) : Type 0 where
  long : length s ≡ 59
  first : get_or s 0 0 ≡ 98
  all : list_all (λ v. ltb v 32) (letter_values s) ≡ true
  bits : byte (letter_values s) 57 % 4 ≡ 0
  profile : bytes_eq (take 4 (bytes_of_text s)) prefix ≡ true
  is : bytes_of_text s ≡ c

passed : (s c : List ℕ) → cid_of_text s ≡ Ok c → Passed s c
unfolding cid_of_text
passed s c e =
    let a = ensure_ok _ _ _ _ e in
    let b = ensure_ok _ _ _ _ a.1 in
    let d = ensure_ok _ _ _ _ b.1 in
    let f = ensure_ok _ _ _ _ d.1 in
    let g = ensure_ok _ _ _ _ f.1 in
    record { long = eqb-true _ _ a.0; first = eqb-true _ _ b.0; all = d.0; bits = eqb-true _ _ f.0; profile = g.0; is = ok_is CidFault _ _ g.1 }

AreFive-from_test : (v : List ℕ) → list_all (λ x. ltb x 32) v ≡ true → AreFive v
AreFive-from_test v h i =
    elim (cases_lt i (length v)) [
      | inl lt ↦ ltb-true (byte v i) 32 (AllPass-from_list_all (λ x. ltb x 32) v h i 0 lt)
      | inr le ↦ let e : byte v i ≡ 0 = get_or_past v i 0 le in omega arith
    ]

-- letters with these values are the letters of the bytes
letters-back : (xs : List ℕ) → length xs ≡ 58 → AreFive (map letter_value xs) → byte (map letter_value xs) 57 % 4 ≡ 0 → xs ≡ base32 (bytes_of (map letter_value xs))
letters-back xs long five ends =
    let v : List ℕ = map letter_value xs in
    let thirty_six : length (bytes_of v) ≡ 36 = length-map-range_with_len (eight_bits v) 0 36 in
    same_number_lists xs (map (letter (bytes_of v)) (range_with_len 0 58)) (long ∙ sym (length-map-range_with_len (letter (bytes_of v)) 0 58))
    (λ k lt.
    let under : k < 58 = omega arith in
    let value : byte v k ≡ letter_value (get_or xs k 0) = get_or-map letter_value xs k 0 0 lt in
    let small : letter_value (get_or xs k 0) < 32 = subst (λ (n : ℕ). n < 32) value (five k) in
    sym (letter_of_value (get_or xs k 0) small)
    ∙ ap (λ (n : ℕ). get_or alphabet n 0) (sym (five-back v five ends k under ∙ value))
    ∙ sym (get_or-map-range_with_len (letter (bytes_of v)) 0 58 k k 0 under (omega arith)))
    ∙ sym (letters (bytes_of v) thirty_six)

text-back : (s c : List ℕ) → Passed s c → (s ≡ text c) × IsBytes c × (is_own_cid c ≡ true)
text-back [] c p = let l = p.long in absurd cc
text-back (x ∷ xs) c p =
    let v : List ℕ = map letter_value xs in
    let five : AreFive v = AreFive-from_test v p.all in
    let l = p.long in
    let long : length xs ≡ 58 = omega arith in
    let first : x ≡ 98 = p.first in
    let thirty_six : eqb (length (bytes_of v)) 36 ≡ true = eq-eqb _ _ (length-map-range_with_len (eight_bits v) 0 36) in
    let own : is_own_cid (bytes_of v) ≡ true = and _ _ thirty_six p.profile in
    subst (λ (d : List ℕ). ((x ∷ xs) ≡ text d) × IsBytes d × (is_own_cid d ≡ true)) p.is
    (ap (λ (y : ℕ). y ∷ xs) first ∙ ap (λ (t : List ℕ). 98 ∷ t) (letters-back xs long five p.bits), IsBytes-of v, own)

pub cid_of_text_takes : (s c : List ℕ) → cid_of_text s ≡ Ok c → (s ≡ text c) × IsBytes c × (is_own_cid c ≡ true)
cid_of_text_takes s c e = text-back s c (passed s c e)

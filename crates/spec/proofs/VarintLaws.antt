-- A number of at most nine bytes is read as it was written, and only its shortest form is read.
use Rattle.std.proofs.Common.{◌≡◌, ◌≢◌, ℕ, zero, suc, ◌+◌, ◌*◌, ◌/◌, ◌%◌, ◌^◌, ◌<◌, ◌≤◌, Bool, true, false, cond, eqb, ltb, List, [], ◌∷◌, ◌++◌, Option, Some, None, refl, sym, ap, subst, ◌∙◌, arith, inl, inr}
use Rattle.std.proofs.lemmas.Bool.{cases_lt, lt-ltb, le-ltb, ne_eqb, eqb-false}
use Rattle.spec.specs.Varint.{varint, varint_within, varint_at, varint_at_within, with_low}
use Rattle.spec.proofs.Taking.{IsBytes, IsBytes-rest}

-- the numbers of at most k bytes are those below this
abbrev limit : ℕ → ℕ
limit zero = 1
limit (suc k) = 128 * limit k

-- ---- what is written is read

-- a number of one byte, and of one byte and more
within-short : (j n : ℕ) → n < 128 → varint_within (suc j) n ≡ n ∷ []
within-short j n lt = let t : ltb n 128 ≡ true = lt-ltb n 128 lt in rw t refl

within-long : (j n : ℕ) → 128 ≤ n → varint_within (suc j) n ≡ (128 + n % 128) ∷ varint_within j (n / 128)
within-long j n le = let t : ltb n 128 ≡ false = le-ltb n 128 le in rw t refl

at-short : (k n : ℕ) (rest : List ℕ) → n < 128 → varint_at_within (suc k) (n ∷ rest) ≡ Some (n, rest)
at-short k n rest lt = let t : ltb n 128 ≡ true = lt-ltb n 128 lt in rw t refl

at-long : (k b : ℕ) (bytes : List ℕ) → 128 ≤ b → varint_at_within (suc k) (b ∷ bytes) ≡ with_low (b % 128) (varint_at_within k bytes)
at-long k b bytes le = let t : ltb b 128 ≡ false = le-ltb b 128 le in rw t refl

with_low-some : (low high n : ℕ) (rest : List ℕ) → high ≢ 0 → low + 128 * high ≡ n → with_low low (Some (high, rest)) ≡ Some (n, rest)
with_low-some low high n rest some e = let t : eqb high 0 ≡ false = ne_eqb high 0 some in rw t (ap (λ (m : ℕ). Some (m, rest)) e)

reads-written : (k j n : ℕ) (rest : List ℕ) → k ≤ j → n < limit (suc k) → varint_at_within (suc k) (varint_within (suc j) n ++ rest) ≡ Some (n, rest)
reads-written zero j n rest le lt =
    let short : n < 128 = omega arith in
    ap (λ (bytes : List ℕ). varint_at_within 1 (bytes ++ rest)) (within-short j n short) ∙ at-short 0 n rest short
reads-written (suc k) zero n rest le lt = absurd (omega arith)
reads-written (suc k) (suc j) n rest le lt =
    elim (cases_lt n 128) [
      | inl short ↦ ap (λ (bytes : List ℕ). varint_at_within (suc (suc k)) (bytes ++ rest)) (within-short (suc j) n short) ∙ at-short (suc k) n rest short
      | inr long ↦
          let low : (128 + n % 128) % 128 ≡ n % 128 = omega arith in
          let whole : n % 128 + 128 * (n / 128) ≡ n = omega arith in
          let again : varint_at_within (suc k) (varint_within (suc j) (n / 128) ++ rest) ≡ Some (n / 128, rest) = reads-written k j (n / 128) rest (omega arith) (omega arith) in
          ap (λ (bytes : List ℕ). varint_at_within (suc (suc k)) (bytes ++ rest)) (within-long (suc j) n long)
          ∙ at-long (suc k) (128 + n % 128) (varint_within (suc j) (n / 128) ++ rest) (omega arith)
          ∙ ap (λ (l : ℕ). with_low l (varint_at_within (suc k) (varint_within (suc j) (n / 128) ++ rest))) low
          ∙ ap (with_low (n % 128)) again
          ∙ with_low-some (n % 128) (n / 128) n rest (λ e. omega arith) whole
    ]

pub varint_at-varint : (n : ℕ) (rest : List ℕ) → n < 2 ^ 63 → varint_at (varint n ++ rest) ≡ Some (n, rest)
varint_at-varint n rest lt = reads-written 8 9 n rest (omega arith) (omega arith)

-- ---- what is read was written

limit-some : (k : ℕ) → 0 < limit k
limit-some zero = omega arith
limit-some (suc k) = let some = limit-some k in omega arith

record Written (k j : ℕ) (bytes : List ℕ) (found : ℕ × List ℕ) : Type 0 where
  parts : bytes ≡ varint_within j found.0 ++ found.1
  fits : found.0 < limit k

abbrev something : ℕ × List ℕ → Option (ℕ × List ℕ)
something found = Some found

same_found : (x y : ℕ × List ℕ) → something x ≡ something y → x ≡ y
same_found x y e = cc

written-short : (k j b : ℕ) (bytes : List ℕ) → b < 128 → Written (suc k) (suc j) (b ∷ bytes) (b, bytes)
written-short k j b bytes lt =
    let some = limit-some k in
    record { parts = ap (λ (t : List ℕ). t ++ bytes) (sym (within-short j b lt)); fits = omega arith }

written-long : (k j b high : ℕ) (bytes rest : List ℕ) → 128 ≤ b → b < 256 → high ≢ 0 → Written k j bytes (high, rest) → Written (suc k) (suc j) (b ∷ bytes) (b % 128 + 128 * high, rest)
written-long k j b high bytes rest le lt some w =
    let n : ℕ = b % 128 + 128 * high in
    let first : 128 + n % 128 ≡ b = omega arith in
    let others : n / 128 ≡ high = omega arith in
    let long : 128 ≤ n = omega arith in
    let fits = w.fits in
    let spelled : varint_within (suc j) n ≡ b ∷ varint_within j high =
    within-long j n long ∙ ap (λ (x : ℕ). x ∷ varint_within j (n / 128)) first ∙ ap (λ (x : ℕ). b ∷ varint_within j x) others in
    record { parts = ap (λ (t : List ℕ). b ∷ t) w.parts ∙ ap (λ (t : List ℕ). t ++ rest) (sym spelled); fits = omega arith }

written-step : (k j b : ℕ) (bytes : List ℕ) (found : ℕ × List ℕ) → 128 ≤ b → b < 256 → (r : Option (ℕ × List ℕ)) → ((high : ℕ × List ℕ) → r ≡ Some high → Written k j bytes high)
    → with_low (b % 128) r ≡ Some found → Written (suc k) (suc j) (b ∷ bytes) found
written-step k j b bytes found le lt None further e = absurd cc
written-step k j b bytes found le lt (Some high) further e = by_high (eqb high.0 0) refl e
  where
    by_high : (t : Bool) → eqb high.0 0 ≡ t → cond t None (Some (b % 128 + 128 * high.0, high.1)) ≡ Some found → Written (suc k) (suc j) (b ∷ bytes) found
    by_high true zero_high h = absurd cc
    by_high false some h =
        subst (Written (suc k) (suc j) (b ∷ bytes)) (same_found (b % 128 + 128 * high.0, high.1) found h)
        (written-long k j b high.0 bytes high.1 le lt (eqb-false high.0 0 some) (further high refl))

written-read : (k j : ℕ) (bytes : List ℕ) (found : ℕ × List ℕ) → IsBytes bytes → k ≤ j → varint_at_within k bytes ≡ Some found → Written k j bytes found
written-read zero j bytes found fits le e = absurd cc
written-read (suc k) j [] found fits le e = absurd cc
written-read (suc k) zero (b ∷ bytes) found fits le e = absurd (omega arith)
written-read (suc k) (suc j) (b ∷ bytes) found fits le e =
    elim (cases_lt b 128) [
      | inl short ↦ subst (Written (suc k) (suc j) (b ∷ bytes)) (same_found (b, bytes) found (sym (at-short k b bytes short) ∙ e)) (written-short k j b bytes short)
      | inr long ↦
          let byte : b < 256 = fits 0 in
          written-step k j b bytes found long byte (varint_at_within k bytes) (λ high h. written-read k j bytes high (IsBytes-rest b bytes fits) (omega arith) h)
          (sym (at-long k b bytes long) ∙ e)
    ]

pub varint_at_takes : (bytes rest : List ℕ) (n : ℕ) → IsBytes bytes → varint_at bytes ≡ Some (n, rest) → (bytes ≡ varint n ++ rest) × (n < 2 ^ 63)
varint_at_takes bytes rest n fits e = let w = written-read 9 10 bytes (n, rest) fits (omega arith) e in let f = w.fits in (w.parts, omega arith)

-- A time and a record's path are texts of DAG-CBOR.
use Rattle.std.proofs.Common.{◌≡◌, ℕ, zero, suc, ◌+◌, ◌-◌, ◌^◌, ◌<◌, ◌≤◌, Bool, true, false, cond, ◌&&◌, ◌||◌, eqb, leb, ltb, List, [], ◌∷◌, length, get_or, take, drop, refl, sym, subst, inl, inr, arith, length-drop, take-append-drop}
use Rattle.std.specs.Prelude.{codes}
use Rattle.std.specs.List.{list_all, before_first, after_first, position_or_len}
use Rattle.std.specs.Char.{is_ascii_alphanumeric, is_ascii_digit}
use Rattle.std.specs.Str.{IsAscii, is_utf8, bytes_eq}
use Rattle.std.proofs.lemmas.Bool.{ltb-true, leb-true, lt-ltb, eqb-true}
use Rattle.std.proofs.lemmas.List.Sums.{split_at_first, passes_at_first}
use Rattle.std.proofs.lemmas.Slice.Eq.{bytes_eq-Decides}
use Rattle.std.proofs.lemmas.Str.{IsAscii-append, IsUtf8-from_ascii, is_utf8-from_IsUtf8}
use Rattle.spec.specs.Keys.{is_one_of, is_slash, is_collection, is_record_key, is_repository_key}
use Rattle.spec.specs.DagCbor.{Text, is_lawful_within, fits_length}
use Rattle.spec.proofs.Bools.{both, and, one_of}
use Rattle.spec.proofs.RecordPairs.{repository-key}
use Rattle.event_times.specs.Times.{after_digits, fits, is_end, is_time, is_zone}

ascii-cons : (x : ℕ) (xs : List ℕ) → x < 128 → IsAscii xs → IsAscii (x ∷ xs)
ascii-cons x xs h k zero = h
ascii-cons x xs h k (suc i) = k i

all-ascii : (p : ℕ → Bool) → ((x : ℕ) → p x ≡ true → x < 128) → (bs : List ℕ) → list_all p bs ≡ true → IsAscii bs
all-ascii p f [] h = λ i. omega arith
all-ascii p f (x ∷ xs) h =
    let b = both (p x) (list_all p xs) h in ascii-cons x xs (f x b.0) (all-ascii p f xs b.1)

one-small : (cs : List ℕ) → list_all (λ c. ltb c 128) cs ≡ true → (x : ℕ) → is_one_of cs x ≡ true → x < 128
one-small [] h x e = absurd cc
one-small (c ∷ cs) h x e =
    let b = both (ltb c 128) (list_all (λ y. ltb y 128) cs) h in
    elim (one_of (eqb c x) (is_one_of cs x) e) [
      | inl same ↦ let is = eqb-true c x same in let lt = ltb-true c 128 b.0 in omega arith
      | inr later ↦ one-small cs b.1 x later
    ]

digit-small : (x : ℕ) → is_ascii_digit x ≡ true → x < 128
digit-small x h = let b = both (leb 48 x) (leb x 57) h in let l = leb-true x 57 b.1 in omega arith

alphanumeric-small : (x : ℕ) → is_ascii_alphanumeric x ≡ true → x < 128
alphanumeric-small x h =
    elim (one_of (leb 48 x && leb x 57 || leb 65 x && leb x 90) (leb 97 x && leb x 122) h) [
      | inl first ↦ elim (one_of (leb 48 x && leb x 57) (leb 65 x && leb x 90) first) [
        | inl digit ↦ let b = both (leb 48 x) (leb x 57) digit in let l = leb-true x 57 b.1 in omega arith
        | inr great ↦ let b = both (leb 65 x) (leb x 90) great in let l = leb-true x 90 b.1 in omega arith
      ]
      | inr small ↦ let b = both (leb 97 x) (leb x 122) small in let l = leb-true x 122 b.1 in omega arith
    ]

mark-small : (cs : List ℕ) → list_all (λ c. ltb c 128) cs ≡ true → (x : ℕ)
    → (is_ascii_alphanumeric x || is_one_of cs x) ≡ true → x < 128
mark-small cs small x h =
    elim (one_of (is_ascii_alphanumeric x) (is_one_of cs x) h) [
      | inl letter ↦ alphanumeric-small x letter
      | inr mark ↦ one-small cs small x mark
    ]

-- ---- times

fit-small : (b f : ℕ) (t : Bool) → f < 128 → cond t (is_ascii_digit b) (eqb b f) ≡ true → b < 128
fit-small b f true l h = digit-small b h
fit-small b f false l h = let e = eqb-true b f h in omega arith

fits-ascii : (bs fs : List ℕ) → list_all (λ c. ltb c 128) fs ≡ true → fits bs fs ≡ true → IsAscii bs
fits-ascii [] fs a h = λ i. omega arith
fits-ascii (b ∷ bs) [] a h = absurd cc
fits-ascii (b ∷ bs) (f ∷ fs) a h =
    let p = both (cond (eqb f 48) (is_ascii_digit b) (eqb b f)) (fits bs fs) h in
    let q = both (ltb f 128) (list_all (λ c. ltb c 128) fs) a in
    ascii-cons b bs (fit-small b f (eqb f 48) (ltb-true f 128 q.0) p.0) (fits-ascii bs fs q.1 p.1)

after-case : (b : ℕ) (bs : List ℕ) (t : Bool) → is_ascii_digit b ≡ t → IsAscii (cond t (after_digits bs) (b ∷ bs))
    → (IsAscii (after_digits bs) → IsAscii bs) → IsAscii (b ∷ bs)
after-case b bs true e h i = ascii-cons b bs (digit-small b e) (i h)
after-case b bs false e h i = h

after-ascii : (bs : List ℕ) → IsAscii (after_digits bs) → IsAscii bs
after-ascii [] h = h
after-ascii (b ∷ bs) h = after-case b bs (is_ascii_digit b) refl h (after-ascii bs)

zone-ascii : (z : List ℕ) → is_zone z ≡ true → IsAscii z
zone-ascii z h =
    elim (one_of (bytes_eq z (codes "Z") || fits z (codes "+00:00")) (fits z (codes "-00:00")) h) [
      | inl first ↦ elim (one_of (bytes_eq z (codes "Z")) (fits z (codes "+00:00")) first) [
        | inl same ↦ subst IsAscii (sym ((bytes_eq-Decides z (codes "Z")).0 same)) (all-ascii (λ x. ltb x 128) (λ x. ltb-true x 128) (codes "Z") refl)
        | inr plus ↦ fits-ascii z (codes "+00:00") refl plus
      ]
      | inr minus ↦ fits-ascii z (codes "-00:00") refl minus
    ]

end-case : (b : ℕ) (bs : List ℕ) (t : Bool) → eqb b 46 ≡ t
    → cond t (ltb (length (after_digits bs)) (length bs) && is_zone (after_digits bs)) (is_zone (b ∷ bs)) ≡ true → IsAscii (b ∷ bs)
end-case b bs true e h =
    let p = both (ltb (length (after_digits bs)) (length bs)) (is_zone (after_digits bs)) h in
    let is = eqb-true b 46 e in
    ascii-cons b bs (omega arith) (after-ascii bs (zone-ascii (after_digits bs) p.1))
end-case b bs false e h = zone-ascii (b ∷ bs) h

end-ascii : (r : List ℕ) → is_end r ≡ true → IsAscii r
end-ascii [] h = absurd cc
end-ascii (b ∷ bs) h = end-case b bs (eqb b 46) refl h

text-lawful : (levels : ℕ) (bs : List ℕ) → length bs ≤ 2048 → IsAscii bs → is_lawful_within levels (Text bs) ≡ true
text-lawful levels bs short ascii =
    and (fits_length bs) (is_utf8 bs) (lt-ltb (length bs) (2 ^ 64) (omega arith))
    (is_utf8-from_IsUtf8 bs (IsUtf8-from_ascii bs ascii))

pub time-lawful : (t : List ℕ) → is_time t ≡ true → is_lawful_within 63 (Text t) ≡ true
time-lawful t h =
    let form = codes "0000-00-00T00:00:00" in
    let a = both (leb 19 (length t) && leb (length t) 64 && fits (take 19 t) form) (is_end (drop 19 t)) h in
    let b = both (leb 19 (length t) && leb (length t) 64) (fits (take 19 t) form) a.0 in
    let l = leb-true (length t) 64 (both (leb 19 (length t)) (leb (length t) 64) b.0).1 in
    text-lawful 63 t (omega arith) (subst IsAscii (take-append-drop 19 t)
    (IsAscii-append (take 19 t) (drop 19 t) (fits-ascii (take 19 t) form refl b.1) (end-ascii (drop 19 t) a.1)))

-- ---- paths

record-ascii : (bs : List ℕ) → is_record_key bs ≡ true → (0 < length bs) × IsAscii bs
record-ascii bs h =
    let sizes = ltb 0 (length bs) && leb (length bs) 512 in
    let all = list_all (λ x. is_ascii_alphanumeric x || is_one_of (codes "._:~-") x) bs in
    let a = both _ _ h in
    let b = both _ _ a.0 in
    let c = both sizes all b.0 in
    let d = both (ltb 0 (length bs)) (leb (length bs) 512) c.0 in
    (ltb-true 0 (length bs) d.0, all-ascii (λ x. is_ascii_alphanumeric x || is_one_of (codes "._:~-") x) (mark-small (codes "._:~-") refl) bs c.1)

collection-ascii : (bs : List ℕ) → is_collection bs ≡ true → IsAscii bs
collection-ascii bs h =
    all-ascii (λ x. is_ascii_alphanumeric x || is_one_of (codes ".-") x) (mark-small (codes ".-") refl) bs
    (both (ltb 0 (length bs) && leb (length bs) 317) (list_all (λ x. is_ascii_alphanumeric x || is_one_of (codes ".-") x) bs) h).1

path-ascii : (k : List ℕ) → is_repository_key k ≡ true → IsAscii k
path-ascii k h =
    let parts = both (is_collection (before_first is_slash k)) (is_record_key (after_first is_slash k)) h in
    let n = position_or_len is_slash k in
    let last = record-ascii (after_first is_slash k) parts.1 in
    let some : 0 < length k - (n + 1) = subst (λ (m : ℕ). 0 < m) (length-drop (n + 1) k) last.0 in
    let within : n < length k = omega arith in
    let slash : get_or k n 0 ≡ 47 = eqb-true (get_or k n 0) 47 (passes_at_first is_slash k 0 within) in
    subst IsAscii (sym (split_at_first is_slash k 0 within))
    (IsAscii-append (before_first is_slash k) (get_or k n 0 ∷ after_first is_slash k) (collection-ascii _ parts.0)
    (ascii-cons (get_or k n 0) (after_first is_slash k) (omega (arith, slash)) last.1))

pub path-lawful : (levels : ℕ) (k : List ℕ) → is_repository_key k ≡ true → is_lawful_within levels (Text k) ≡ true
path-lawful levels k h =
    let l = leb-true (length k) 1024 (both (ltb 0 (length k)) (leb (length k) 1024) (repository-key k h)).1 in
    text-lawful levels k (omega arith) (path-ascii k h)

-- Digests written at all places, in whatever order.
use Rattle.std.proofs.Common.{◌≡◌, ℕ, ◌<◌, ◌≤◌, ◌+◌, ◌-◌, take, drop, List, [], ◌∷◌, ◌++◌, length, map, slice_index_or, slice_set, inl, inr, arith, refl, sym, ap, ◌∙◌}
use Rattle.std.specs.List.{All, range_with_len}
use Rattle.std.specs.List.Sorted.{IsPermutation}
use Rattle.std.proofs.lemmas.List.{take_all, get_or-set_same, get_or-set_other, get_or-map, ext_get_or, length-map, map-append, map-id}
use Rattle.std.proofs.lemmas.List.Elements.{All-nil, All-cons, All-head, All-tail, All-get_or, All-from_get_or}
use Rattle.std.proofs.lemmas.List.FromFn.{map-range_with_len_more, get_or-range_with_len, length-range_with_len}
use Rattle.std.proofs.lemmas.List.Sorted.{All-permutation, IsPermutation-sym}
use Rattle.std.proofs.lemmas.Bool.{cases_eq}
use Rattle.std.proofs.Math.ListN.{length-set}
use Rattle.sha256_lanes.specs.Digests.{written}

-- the digest at a place
abbrev pub IsThere : List (List ℕ) → List (List ℕ) → ℕ → Type 0
IsThere hs ds p = slice_index_or ds p [] ≡ slice_index_or hs p []

set_there : (hs ds : List (List ℕ)) (q p : ℕ) → q < length ds → IsThere hs ds p → IsThere hs (slice_set ds q (slice_index_or hs q [])) p
set_there hs ds q p lt h = elim (cases_eq p q) [
  | inl e ↦ rw (← e) (get_or-set_same ds p (slice_index_or hs p []) [] (omega arith))
  | inr e ↦ get_or-set_other ds q p (slice_index_or hs q []) [] e ∙ h
]

pub length-written : (hs : List (List ℕ)) (ps : List ℕ) (ds : List (List ℕ)) → length (written hs ps ds) ≡ length ds
length-written hs [] ds = refl
length-written hs (p ∷ ps) ds = length-written hs ps (slice_set ds p (slice_index_or hs p [])) ∙ length-set ds p (slice_index_or hs p [])

kept_there : (hs : List (List ℕ)) (ps : List ℕ) (ds : List (List ℕ)) (p : ℕ) → All (λ q. q < length ds) ps → IsThere hs ds p → IsThere hs (written hs ps ds) p
kept_there hs [] ds p a h = h
kept_there hs (q ∷ ps) ds p a h =
    let P : ℕ → Type 0 = λ q. q < length ds in
    let next : List (List ℕ) = slice_set ds q (slice_index_or hs q []) in
    let long : length ds ≡ length next = sym (length-set ds q (slice_index_or hs q [])) in
    kept_there hs ps next p (rw (← long) (All-tail P q ps a)) (set_there hs ds q p (All-head P q ps a) h)

all_there : (hs : List (List ℕ)) (ps : List ℕ) (ds : List (List ℕ)) → All (λ q. q < length ds) ps → All (λ q. IsThere hs (written hs ps ds) q) ps
all_there hs [] ds a = All-nil (λ q. IsThere hs ds q)
all_there hs (q ∷ ps) ds a =
    let P : ℕ → Type 0 = λ q. q < length ds in
    let next : List (List ℕ) = slice_set ds q (slice_index_or hs q []) in
    let long : length ds ≡ length next = sym (length-set ds q (slice_index_or hs q [])) in
    let after : All (λ q. q < length next) ps = rw (← long) (All-tail P q ps a) in
    All-cons (λ p. IsThere hs (written hs ps next) p) q ps
    (kept_there hs ps next q after (get_or-set_same ds q (slice_index_or hs q []) [] (All-head P q ps a)))
    (all_there hs ps next after)

places_below : (n : ℕ) → All (λ q. q < n) (range_with_len 0 n)
places_below n = All-from_get_or (λ q. q < n) (range_with_len 0 n) 0 (λ i lt.
    let at : slice_index_or (range_with_len 0 n) i 0 ≡ 0 + i = get_or-range_with_len 0 n i 0 (omega (arith, length-range_with_len 0 n)) in
    omega (arith, length-range_with_len 0 n))

-- places in another order are below the length
pub order_below : (n : ℕ) (ps : List ℕ) → IsPermutation (range_with_len 0 n) ps → All (λ q. q < n) ps
order_below n ps e = All-permutation (λ q. q < n) (range_with_len 0 n) ps e (places_below n)

-- written at all places, nothing of what was there is left
pub written_all : (hs ds : List (List ℕ)) (n : ℕ) (ps : List ℕ) → length hs ≡ n → length ds ≡ n → IsPermutation (range_with_len 0 n) ps → written hs ps ds ≡ hs
written_all hs ds n ps lh ld e =
    let ws : List (List ℕ) = written hs ps ds in
    let below : All (λ q. q < length ds) ps = rw ld (order_below n ps e) in
    let there : All (λ q. IsThere hs ws q) (range_with_len 0 n) =
    All-permutation (λ q. IsThere hs ws q) ps (range_with_len 0 n) (IsPermutation-sym (range_with_len 0 n) ps e) (all_there hs ps ds below) in
    let lw : length ws ≡ n = length-written hs ps ds ∙ ld in
    ext_get_or [] ws hs (lw ∙ sym lh) (λ i lt.
    let ln = length-range_with_len 0 n in
    let at : slice_index_or (range_with_len 0 n) i 0 ≡ i = get_or-range_with_len 0 n i 0 (omega arith) ∙ omega arith in
    rw at at (All-get_or (λ q. IsThere hs ws q) (range_with_len 0 n) i 0 (omega arith) there))

range_more : (a n : ℕ) → range_with_len a (n + 1) ≡ range_with_len a n ++ (a + n) ∷ []
range_more a n = sym (map-id (range_with_len a (n + 1))) ∙ map-range_with_len_more (λ x. x) a n (a + n) refl ∙ ap (λ (z : List ℕ). z ++ (a + n) ∷ []) (map-id (range_with_len a n))

-- one place more
pub one_more_place : (xs ys : List (ℕ × ℕ)) (x : ℕ × ℕ) (k : ℕ) → ys ≡ xs ++ x ∷ [] → x.1 ≡ k → map (λ p. p.1) xs ≡ range_with_len 0 k → map (λ p. p.1) ys ≡ range_with_len 0 (k + 1)
one_more_place xs ys x k e at h =
    let last : range_with_len 0 (k + 1) ≡ range_with_len 0 k ++ x.1 ∷ [] =
    range_more 0 k ∙ ap (λ (z : ℕ). range_with_len 0 k ++ z ∷ []) (omega arith) in
    ap (map (λ p. p.1)) e ∙ map-append (λ p. p.1) xs (x ∷ []) ∙ ap (λ (z : List ℕ). z ++ x.1 ∷ []) h ∙ sym last

-- places in a list of pairs
pub pairs_below : (n : ℕ) (xs : List (ℕ × ℕ)) → All (λ q. q < n) (map (λ p. p.1) xs) → All (λ p. p.1 < n) xs
pairs_below n xs a = λ k d lt.
    let h = a k d.1 (omega (arith, length-map xs (λ p. p.1))) in
    rw (get_or-map (λ p. p.1) xs k d d.1 lt) at h

-- the place of pair k
abbrev pub place_at : List (ℕ × ℕ) → ℕ → ℕ
place_at xs k = (slice_index_or xs k (0, 0)).1

-- four places more
pub four_more : (hs ds now end : List (List ℕ)) (n : ℕ) (xs : List (ℕ × ℕ)) → 4 ≤ length xs
    → now ≡ slice_set (slice_set (slice_set (slice_set ds (place_at xs 0) (slice_index_or hs (place_at xs 0) []))
    (place_at xs 1) (slice_index_or hs (place_at xs 1) []))
    (place_at xs 2) (slice_index_or hs (place_at xs 2) []))
    (place_at xs 3) (slice_index_or hs (place_at xs 3) [])
    → All (λ p. p.1 < n) xs → written hs (map (λ p. p.1) xs) ds ≡ end
    → All (λ p. p.1 < n) (take (length xs - 4) (drop 4 xs)) × (written hs (map (λ p. p.1) (take (length xs - 4) (drop 4 xs))) now ≡ end)
four_more hs ds now end n (a ∷ b ∷ c ∷ d ∷ xs) long e below h =
    let P : ℕ × ℕ → Type 0 = λ p. p.1 < n in
    let rest : take (length (a ∷ b ∷ c ∷ d ∷ xs) - 4) xs ≡ xs = take_all (length (a ∷ b ∷ c ∷ d ∷ xs) - 4) xs (omega arith) in
    (rw rest (All-tail P d xs (All-tail P c (d ∷ xs) (All-tail P b (c ∷ d ∷ xs) (All-tail P a (b ∷ c ∷ d ∷ xs) below)))), rw (rest, e) h)
four_more hs ds now end n [] long e below h = absurd (omega arith)
four_more hs ds now end n (a ∷ []) long e below h = absurd (omega arith)
four_more hs ds now end n (a ∷ b ∷ []) long e below h = absurd (omega arith)
four_more hs ds now end n (a ∷ b ∷ c ∷ []) long e below h = absurd (omega arith)

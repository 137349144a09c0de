-- What two shifts do to each lane, and how a window of vectors is a window of each lane.
use Rattle.std.proofs.Common.{◌≡◌, ℕ, zero, suc, ◌<◌, ◌-◌, ◌*◌, ◌/◌, ◌%◌, ◌^◌, List, [], ◌∷◌, length, slice_index, slice_index_or, slice_set, bit_or, arith, refl}
use Rattle.std.specs.Int.{w32, rotate_right}
use Rattle.std.specs.Simd.Lanes.{zip2}
use Rattle.std.proofs.lemmas.List.{get_or-map, map-set}
use Rattle.sha256_lanes.specs.Lanes.{lane, lane_at, words}

-- what holds of each of the four lanes
pub below_four : (P : ℕ → Type 0) → P 0 → P 1 → P 2 → P 3 → (j : ℕ) → j < 4 → P j
below_four P p0 p1 p2 p3 zero h = p0
below_four P p0 p1 p2 p3 (suc zero) h = p1
below_four P p0 p1 p2 p3 (suc (suc zero)) h = p2
below_four P p0 p1 p2 p3 (suc (suc (suc zero))) h = p3
below_four P p0 p1 p2 p3 (suc (suc (suc (suc n)))) h = absurd (omega arith)

-- what holds of each list of four elements
pub four_lanes : (P : List ℕ → Type 0) → ((a b c d : ℕ) → P (a ∷ b ∷ c ∷ d ∷ [])) → (xs : List ℕ) → length xs ≡ 4 → P xs
four_lanes P p (a ∷ b ∷ c ∷ d ∷ []) h = p a b c d
four_lanes P p [] h = absurd (omega arith)
four_lanes P p (a ∷ []) h = absurd (omega arith)
four_lanes P p (a ∷ b ∷ []) h = absurd (omega arith)
four_lanes P p (a ∷ b ∷ c ∷ []) h = absurd (omega arith)
four_lanes P p (a ∷ b ∷ c ∷ d ∷ e ∷ xs) h = absurd (omega arith)

abbrev Rotates : ℕ → List ℕ → Type 0
Rotates k x = (j : ℕ) → j < 4
    → slice_index (zip2 bit_or
    (zip2 (λ x n. x / 2 ^ n) x (k ∷ k ∷ k ∷ k ∷ []))
    (zip2 (λ x n. x * 2 ^ n % 2 ^ 32) x ((32 - k) ∷ (32 - k) ∷ (32 - k) ∷ (32 - k) ∷ []))) j
    ≡ rotate_right w32 (slice_index x j) k

pub shifts_rotate : (k : ℕ) → 0 < k → k < 32 → (x : List ℕ) → length x ≡ 4 → Rotates k x
shifts_rotate k low high =
    let right : k % 32 ≡ k = omega arith in
    let left : (32 - k) % 32 ≡ 32 - k = omega arith in
    four_lanes (Rotates k) (λ a b c d.
    below_four _ (rw (right, left) refl) (rw (right, left) refl) (rw (right, left) refl) (rw (right, left) refl))

abbrev Shifts : ℕ → List ℕ → Type 0
Shifts k x = (j : ℕ) → j < 4
    → slice_index (zip2 (λ x n. x / 2 ^ n) x (k ∷ k ∷ k ∷ k ∷ [])) j ≡ slice_index x j / 2 ^ k

pub shifts : (k : ℕ) → k < 32 → (x : List ℕ) → length x ≡ 4 → Shifts k x
shifts k high = four_lanes (Shifts k) (λ a b c d. below_four _ refl refl refl refl)

-- word i of lane j's window
pub slice_index-words : (w : List (List ℕ)) (j i : ℕ) → i < length w → slice_index (words j w) i ≡ slice_index (slice_index_or w i []) j
slice_index-words w j i h = get_or-map (λ x. slice_index x j) w i [] 0 h

-- a vector written into the window is a word written into lane j's
pub words-set : (w : List (List ℕ)) (j i : ℕ) (x : List ℕ) → words j (slice_set w i x) ≡ slice_set (words j w) i (slice_index x j)
words-set w j i x = map-set (λ x. slice_index x j) w i x

-- word i of lane j's hash value
pub slice_index-lane : (x : List (List ℕ)) (j i : ℕ) → i < 8 → slice_index (lane j x) i ≡ lane_at x i j
slice_index-lane x j zero h = refl
slice_index-lane x j (suc zero) h = refl
slice_index-lane x j (suc (suc zero)) h = refl
slice_index-lane x j (suc (suc (suc zero))) h = refl
slice_index-lane x j (suc (suc (suc (suc zero)))) h = refl
slice_index-lane x j (suc (suc (suc (suc (suc zero))))) h = refl
slice_index-lane x j (suc (suc (suc (suc (suc (suc zero)))))) h = refl
slice_index-lane x j (suc (suc (suc (suc (suc (suc (suc zero))))))) h = refl
slice_index-lane x j (suc (suc (suc (suc (suc (suc (suc (suc n)))))))) h = absurd (omega arith)

-- The blocks of a padded message: the whole ones are the message's, and the last one or two have the padding.
use Rattle.std.proofs.Common.{suc, slice_set, ◌≡◌, ℕ, ◌<◌, ◌≤◌, ◌+◌, ◌-◌, ◌*◌, ◌/◌, ◌%◌, ◌^◌, List, [], ◌∷◌, ◌++◌, length, take, drop, replicate, arith, refl, sym, ap, ◌∙◌, length-append, length-drop}
use Rattle.std.specs.Int.{w64, to_be_bytes}
use Rattle.std.proofs.lemmas.List.{take_at, drop_at, set_at, drop-replicate, take_all, drop_all, append-nil, length-take-le, take-append-le, drop-append-le, drop-drop, append_assoc, length-replicate, replicate-append-replicate}
use borrow.Rule.Slice.PartMut.{put_mid}
use Rattle.sha2.specs.Sha256.{padding, padded_message}
use Rattle.sha256_lanes.specs.Blocks.{block, block_count}

-- bytes, the byte that ends a message, and zeros up to the end of a block
abbrev pub marked : List ℕ → List ℕ
marked t = t ++ (128 ∷ replicate (63 - length t) 0)

pub length-marked : (t : List ℕ) → length t < 64 → length (marked t) ≡ 64
length-marked t h = length-append t (128 ∷ replicate (63 - length t) 0) ∙ omega (arith, length-replicate {A = ℕ} (63 - length t) 0)

abbrev pub bits : List ℕ → List ℕ
bits m = to_be_bytes w64 (length m * 8 % 2 ^ 64)

-- a whole block
pub block_whole : (m : List ℕ) (i : ℕ) → i < length m / 64 → block m i ≡ take 64 (drop (i * 64) m)
block_whole m i h =
    rw (drop-append-le (i * 64) m (padding (length m)) (omega arith))
    (take-append-le 64 (drop (i * 64) m) (padding (length m)) (omega (arith, length-drop (i * 64) m)))

-- zeros in two parts
zeros : (n a b : ℕ) → n ≡ a + b → replicate {A = ℕ} n 0 ≡ replicate a 0 ++ replicate b 0
zeros n a b e = ap (λ (k : ℕ). replicate {A = ℕ} k 0) e ∙ sym (replicate-append-replicate a b 0)

-- what follows the whole blocks
rest_is : (m : List ℕ) → drop (length m / 64 * 64) (padded_message m) ≡ drop (length m / 64 * 64) m ++ padding (length m)
rest_is m = drop-append-le (length m / 64 * 64) m (padding (length m)) (omega arith)

length-rest : (m : List ℕ) → length (drop (length m / 64 * 64) m) ≡ length m % 64
length-rest m = length-drop (length m / 64 * 64) m ∙ omega arith

-- a rest that leaves room for the number of bits
short_rest : (t b : List ℕ) (r : ℕ) → length t ≡ r → length b ≡ 8 → r < 56
    → t ++ ((128 ∷ replicate ((119 - r) % 64) 0) ++ b) ≡ take 56 (marked t) ++ b
short_rest t b r e lb h =
    let count : (119 - r) % 64 ≡ 55 - r = omega arith in
    let cut : replicate {A = ℕ} (63 - length t) 0 ≡ replicate (55 - r) 0 ++ replicate 8 0 = zeros (63 - length t) (55 - r) 8 (omega arith) in
    let long : length (t ++ (128 ∷ replicate (55 - r) 0)) ≡ 56 =
    length-append t (128 ∷ replicate (55 - r) 0) ∙ omega (arith, length-replicate {A = ℕ} (55 - r) 0) in
    let whole : marked t ≡ (t ++ (128 ∷ replicate (55 - r) 0)) ++ replicate 8 0 =
    ap (λ (z : List ℕ). t ++ (128 ∷ z)) cut ∙ sym (append_assoc t (128 ∷ replicate (55 - r) 0) (replicate 8 0)) in
    let front : take 56 (marked t) ≡ t ++ (128 ∷ replicate (55 - r) 0) =
    ap (λ (z : List ℕ). take 56 z) whole ∙ take_at (t ++ (128 ∷ replicate (55 - r) 0)) (replicate 8 0) 56 long in
    rw (count, front, append_assoc) refl

-- a rest that leaves none
long_rest : (t b : List ℕ) (r : ℕ) → length t ≡ r → 56 ≤ r → r < 64
    → t ++ ((128 ∷ replicate ((119 - r) % 64) 0) ++ b) ≡ marked t ++ (replicate 56 0 ++ b)
long_rest t b r e low high =
    let cut : replicate {A = ℕ} ((119 - r) % 64) 0 ≡ replicate (63 - length t) 0 ++ replicate 56 0 = zeros ((119 - r) % 64) (63 - length t) 56 (omega arith) in
    ap (λ (z : List ℕ). t ++ ((128 ∷ z) ++ b)) cut
    ∙ ap (λ (z : List ℕ). t ++ (128 ∷ z)) (append_assoc (replicate (63 - length t) 0) (replicate 56 0) b)
    ∙ sym (append_assoc t (128 ∷ replicate (63 - length t) 0) (replicate 56 0 ++ b))

-- the only block with padding
pub block_short : (m : List ℕ) → length m % 64 < 56
    → block m (length m / 64) ≡ take 56 (marked (drop (length m / 64 * 64) m)) ++ bits m
block_short m h =
    let t = drop (length m / 64 * 64) m in
    let e = length-rest m in
    let all : drop (length m / 64 * 64) (padded_message m) ≡ take 56 (marked t) ++ bits m =
    rest_is m ∙ short_rest t (bits m) (length m % 64) e refl h in
    let lm : length (marked t) ≡ 64 = length-marked t (omega arith) in
    let front : length (take 56 (marked t)) ≡ 56 = length-take-le 56 (marked t) (omega arith) in
    rw all (take_all 64 (take 56 (marked t) ++ bits m) (omega (arith, length-append (take 56 (marked t)) (bits m))))

-- the first of two
pub block_long : (m : List ℕ) → 56 ≤ length m % 64
    → block m (length m / 64) ≡ marked (drop (length m / 64 * 64) m)
block_long m h =
    let t = drop (length m / 64 * 64) m in
    let e = length-rest m in
    let all : drop (length m / 64 * 64) (padded_message m) ≡ marked t ++ (replicate 56 0 ++ bits m) =
    rest_is m ∙ long_rest t (bits m) (length m % 64) e h (omega arith) in
    rw all (take_at (marked t) (replicate 56 0 ++ bits m) 64 (length-marked t (omega arith)))

-- the second of two
pub block_last : (m : List ℕ) (i : ℕ) → 56 ≤ length m % 64 → i ≡ length m / 64 + 1 → block m i ≡ replicate 56 0 ++ bits m
block_last m i h at =
    let t = drop (length m / 64 * 64) m in
    let e = length-rest m in
    let all : drop (length m / 64 * 64) (padded_message m) ≡ marked t ++ (replicate 56 0 ++ bits m) =
    rest_is m ∙ long_rest t (bits m) (length m % 64) e h (omega arith) in
    let far : drop (i * 64) (padded_message m) ≡ drop 64 (drop (length m / 64 * 64) (padded_message m)) =
    ap (λ (k : ℕ). drop k (padded_message m)) (omega arith) ∙ sym (drop-drop 64 (length m / 64 * 64) (padded_message m)) in
    rw (far, all, drop_at (marked t) (replicate 56 0 ++ bits m) 64 (length-marked t (omega arith))) refl

-- the number of blocks by the length
pub block_count_is : (m : List ℕ) → block_count m * 64 ≡ length m + (1 + ((119 - length m % 64) % 64 + 8))
block_count_is m =
    let z : List ℕ = replicate ((119 - length m % 64) % 64) 0 in
    let lz : length z ≡ (119 - length m % 64) % 64 = length-replicate ((119 - length m % 64) % 64) 0 in
    let l : length (padded_message m) ≡ length m + (1 + (length z + 8)) =
    length-append m (padding (length m)) ∙ ap (λ (k : ℕ). length m + k) (length-append (128 ∷ z) (bits m) ∙ omega arith) in
    omega arith

one_more : (n : ℕ) → n < 64 → 64 - n ≡ suc (63 - n)
one_more n h = omega arith

-- what a block of zeros is after a rest and the byte that ends a message are written into it
pub marked_is : (ys t : List ℕ) → ys ≡ t → length t < 64 → slice_set (ys ++ drop (length t) (replicate 64 0)) (length t) 128 ≡ marked t
marked_is ys t e h =
    let cut : drop (length t) (replicate {A = ℕ} 64 0) ≡ 0 ∷ replicate (63 - length t) 0 =
    drop-replicate (length t) 64 0 ∙ ap (λ (k : ℕ). replicate {A = ℕ} k 0) (one_more (length t) h) in
    rw (e, cut) (set_at t 0 (replicate (63 - length t) 0) 128 (length t) refl)

-- what a block is after its last eight bytes are written
pub with_length_is : (b ys w : List ℕ) → ys ≡ w → length b ≡ 64 → put_mid 56 8 b ys ≡ take 56 b ++ w
with_length_is b ys w e h =
    let none : drop 8 (drop 56 b) ≡ [] = drop_all 8 (drop 56 b) (omega (arith, length-drop 56 b)) in
    rw (none, e, append-nil) refl

-- the rest as it is cut off
pub rest_code : (m : List ℕ) → take (length m - 64 * (length m / 64)) (drop (64 * (length m / 64)) m) ≡ drop (length m / 64 * 64) m
rest_code m =
    let at : 64 * (length m / 64) ≡ length m / 64 * 64 = omega arith in
    rw at (take_all (length m - length m / 64 * 64) (drop (length m / 64 * 64) m) (omega (arith, length-drop (length m / 64 * 64) m)))

-- a whole block as it is cut out
pub whole_code : (m : List ℕ) (i : ℕ) → i < length m / 64 → take (64 * i + 64 - 64 * i) (drop (64 * i) m) ≡ block m i
whole_code m i h =
    let long : 64 * i + 64 - 64 * i ≡ 64 = omega arith in
    let at : 64 * i ≡ i * 64 = omega arith in
    rw (long, at) (sym (block_whole m i h))

-- the rest and the byte after it, as the code has them
pub block_marked : (m x : List ℕ) (i : ℕ)
    → x ≡ marked (take (length m - 64 * (length m / 64)) (drop (64 * (length m / 64)) m))
    → 56 ≤ length (take (length m - 64 * (length m / 64)) (drop (64 * (length m / 64)) m)) → i ≡ length m / 64
    → x ≡ block m i
block_marked m x i e h at =
    let r : drop (length m / 64 * 64) m ≡ take (length m - 64 * (length m / 64)) (drop (64 * (length m / 64)) m) = sym (rest_code m) in
    let l : length (drop (length m / 64 * 64) m) ≡ length (take (length m - 64 * (length m / 64)) (drop (64 * (length m / 64)) m)) = ap length r in
    e ∙ ap marked (rest_code m) ∙ sym (block_long m (omega (arith, length-rest m))) ∙ ap (block m) (sym at)

-- the same with the number of bits
pub block_closed : (m x y : List ℕ) (i : ℕ)
    → x ≡ marked (take (length m - 64 * (length m / 64)) (drop (64 * (length m / 64)) m))
    → y ≡ take 56 x ++ bits m
    → length (take (length m - 64 * (length m / 64)) (drop (64 * (length m / 64)) m)) < 56 → i ≡ length m / 64
    → y ≡ block m i
block_closed m x y i e f h at =
    let l : length (take (length m - 64 * (length m / 64)) (drop (64 * (length m / 64)) m)) ≡ length (drop (length m / 64 * 64) m) = ap length (rest_code m) in
    let whole : x ≡ marked (drop (length m / 64 * 64) m) = e ∙ ap marked (rest_code m) in
    f ∙ ap (λ (z : List ℕ). take 56 z ++ bits m) whole ∙ sym (block_short m (omega (arith, length-rest m))) ∙ ap (block m) (sym at)

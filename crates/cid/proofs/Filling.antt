-- Arrays that are written group by group.
use Rattle.std.proofs.Common.{◌≡◌, ℕ, zero, suc, ◌+◌, ◌≤◌, ◌++◌, true, false, Bool, List, [], ◌∷◌, length, take, drop, set, map, sym, ap, ◌∙◌, refl, cond, Some, None, arith, length-drop}
use Rattle.std.specs.List.{range_with_len}
use Rattle.std.proofs.lemmas.List.{length-take-le, length-set, map-append, take_all, take_more_set}
use Rattle.std.proofs.lemmas.Slice.{take-put_mid}
use Rattle.std.proofs.lemmas.List.FromFn.{length-map-range_with_len, map-range_with_len_more}
use borrow.Rule.Slice.PartMut.{put_mid, same_len_mid}

-- numbers, and those after them
range-append : (a n m b whole : ℕ) → b ≡ a + n → whole ≡ n + m → range_with_len a n ++ range_with_len b m ≡ range_with_len a whole
range-append a zero m b whole from all = let same : b ≡ a = omega arith in let as_many : m ≡ whole = omega arith in λ k. range_with_len (same k) (as_many k)
range-append a (suc n) m b zero from all = absurd (omega arith)
range-append a (suc n) m b (suc whole) from all = ap (λ (l : List ℕ). a ∷ l) (range-append (a + 1) n m b whole (omega arith) (omega arith))

-- the next group
pub group_filled : (f : ℕ → ℕ) (xs ys : List ℕ) (at count room whole : ℕ) → at ≤ length xs → whole ≡ at + count
    → ys ≡ map f (range_with_len at count) → take at xs ≡ map f (range_with_len 0 at) → take whole (put_mid at room xs ys) ≡ map f (range_with_len 0 whole)
group_filled f xs ys at count room whole within size is so_far =
    let long : length ys ≡ count = ap length is ∙ length-map-range_with_len f at count in
    take-put_mid at room xs ys whole (omega arith) within
    ∙ (λ k. so_far k ++ is k) ∙ sym (map-append f (range_with_len 0 at) (range_with_len at count))
    ∙ ap (map f) (range-append 0 at count at whole (omega arith) size)

-- a part that is written anew is as long as it was
pub length-put_mid : (at room : ℕ) (xs ys : List ℕ) → at + room ≤ length xs → length ys ≡ room → length (put_mid at room xs ys) ≡ length xs
length-put_mid at room xs ys within long = same_len_mid at room xs ys (omega (arith, length-take-le room (drop at xs) (omega (arith, length-drop at xs))))

-- the last place
pub place_filled : (f : ℕ → ℕ) (xs : List ℕ) (n i v : ℕ) → length xs ≡ n + 1 → i ≡ n → v ≡ f n → take i xs ≡ map f (range_with_len 0 i) → set xs n v ≡ map f (range_with_len 0 (n + 1))
place_filled f xs n i v long end is so_far =
    let before : take n xs ≡ map f (range_with_len 0 n) = ap (λ (k : ℕ). take k xs) (sym end) ∙ so_far ∙ ap (λ (k : ℕ). map f (range_with_len 0 k)) end in
    sym (take_all (n + 1) (set xs n v) (omega (arith, length-set xs n v))) ∙ take_more_set xs n v (omega arith)
    ∙ (λ k. before k ++ is k ∷ []) ∙ sym (map-range_with_len_more f 0 n n (omega arith))

-- what a choice between a value and none says of its test
pub none_says : {X : Type 0} (b : Bool) (v : X) → None ≡ cond b (Some v) None → b ≡ false
none_says true v e = absurd cc
none_says false v e = refl

pub some_says : {X : Type 0} (b : Bool) (v w : X) → Some w ≡ cond b (Some v) None → b ≡ true
some_says true v w e = refl
some_says false v w e = absurd cc

pub some_is : {X : Type 0} (b : Bool) (v w : X) → Some w ≡ cond b (Some v) None → w ≡ v
some_is true v w e = cc
some_is false v w e = absurd cc

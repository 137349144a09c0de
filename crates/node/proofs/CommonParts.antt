-- What two keys have in common, place by place.
use Rattle.std.proofs.Common.{◌≡◌, ℕ, suc, ◌≤◌, ◌+◌, ◌-◌, zero, true, false, cond, eqb, List, [], ◌∷◌, ◌++◌, length, take, drop, refl, sym, ap, ◌∙◌, arith, length-drop}
use Rattle.std.proofs.lemmas.Bool.{eqb-true, eq-eqb}
use Rattle.std.proofs.lemmas.List.{drop_all, take_rest, drop-drop}
use Rattle.std.specs.Int.{w64, to_le_bytes}
use Rattle.spec.specs.NodeFormat.{common}

common-nothing : (xs : List ℕ) → common xs [] ≡ 0
common-nothing [] = refl
common-nothing (x ∷ xs) = refl

pub common-drop-none : (xs ys : List ℕ) (i : ℕ) → length ys ≤ i → common (drop i xs) (drop i ys) ≡ 0
common-drop-none xs ys i p = rw (drop_all i ys p) (common-nothing (drop i xs))

-- where the first n bytes are the same, the rest decides
pub common-alike : (n : ℕ) (xs ys : List ℕ) → n ≤ length xs → n ≤ length ys → take n xs ≡ take n ys → common xs ys ≡ n + common (drop n xs) (drop n ys)
common-alike zero xs ys in_one in_other e = omega arith
common-alike (suc n) [] ys in_one in_other e = omega (arith, in_one)
common-alike (suc n) (x ∷ xs) [] in_one in_other e = omega (arith, in_other)
common-alike (suc n) (x ∷ xs) (y ∷ ys) in_one in_other e =
    let first : x ≡ y = cc in
    let rest : take n xs ≡ take n ys = cc in
    let more = common-alike n xs ys (omega (arith, in_one)) (omega (arith, in_other)) rest in
    let same : eqb x y ≡ true = eq-eqb x y first in
    rw same (omega (arith, more))

-- the next eight bytes make the same number
pub common-word : (xs ys : List ℕ) (i a b : ℕ) → i ≤ length xs → i ≤ length ys → 8 ≤ length xs - i → 8 ≤ length ys - i → common xs ys ≡ i + common (drop i xs) (drop i ys)
    → to_le_bytes w64 a ≡ take 8 (take (length xs - i) (drop i xs)) → to_le_bytes w64 b ≡ take 8 (take (length ys - i) (drop i ys)) → a ≡ b
    → common xs ys ≡ i + 8 + common (drop (i + 8) xs) (drop (i + 8) ys)
common-word xs ys i a b in_one in_other room_one room_other value is_a is_b same =
    let alike : take 8 (drop i xs) ≡ take 8 (drop i ys) =
    ap (take 8) (sym (take_rest xs i)) ∙ sym is_a ∙ ap (to_le_bytes w64) same ∙ is_b ∙ ap (take 8) (take_rest ys i) in
    let more = common-alike 8 (drop i xs) (drop i ys) (omega (arith, length-drop i xs)) (omega (arith, length-drop i ys)) alike in
    let after : common (drop (i + 8) xs) (drop (i + 8) ys) ≡ common (drop 8 (drop i xs)) (drop 8 (drop i ys)) = sym (λ k. common (drop-drop 8 i xs k) (drop-drop 8 i ys k)) in
    omega (arith, value, more, after)

-- a key from what it shares with the one before, and the rest of it
pub key-again : (before key : List ℕ) → take (common before key) before ++ drop (common before key) key ≡ key
key-again [] ys = refl
key-again (x ∷ xs) [] = refl
key-again (x ∷ xs) (y ∷ ys) =
    elim (eqb x y) as (λ t. eqb x y ≡ t → take (cond t (suc (common xs ys)) 0) (x ∷ xs) ++ drop (cond t (suc (common xs ys)) 0) (y ∷ ys) ≡ y ∷ ys) [
      | true ↦ λ t. ap (λ (z : ℕ). z ∷ (take (common xs ys) xs ++ drop (common xs ys) ys)) (eqb-true x y t) ∙ ap (λ (zs : List ℕ). y ∷ zs) (key-again xs ys)
      | false ↦ λ t. refl
    ] refl

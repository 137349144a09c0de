-- Lists from a place on, and by their first element.
use Rattle.std.proofs.Common.{◌≡◌, ℕ, ◌-◌, ◌≤◌, List, [], ◌∷◌, length, take, drop, get_or, sym, ap, ◌∙◌, arith}
use Rattle.std.proofs.lemmas.List.{take_all, length-drop}

-- all from a place on
pub rest-of : {X : Type 0} (xs : List X) (i : ℕ) → take (length xs - i) (drop i xs) ≡ drop i xs
rest-of xs i = let l = length-drop i xs in take_all (length xs - i) (drop i xs) (omega (arith, l))

-- a list by its first element and the others
pub head-tail : {X : Type 0} (xs : List X) (x : X) → 1 ≤ length xs → x ≡ get_or xs 0 x
    → xs ≡ x ∷ take (length xs - 1) (drop 1 xs)
head-tail [] x h e = absurd (omega arith)
head-tail (y ∷ ys) x h e =
    ap (λ (z : _). z ∷ ys) (sym e) ∙ ap (λ t. x ∷ t) (sym (take_all (length (y ∷ ys) - 1) ys (omega arith)))

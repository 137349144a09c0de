-- Adding words to a text, with one space between each two.
use Rattle.std.proofs.Common.{◌≡◌, ℕ, ◌-◌, ◌≤◌, List, [], ◌∷◌, ◌++◌, length, map, take, drop, get_or, arith, ap, ◌∙◌, append_assoc}
use Rattle.std.specs.Prelude.{Result, Ok, Err, OnOk}
use Rattle.std.specs.List.{flat_map, join_with_byte}
use Rattle.std.proofs.lemmas.List.{append-nil, take_all}

-- words in a row are the first of them, and each other one after a space
joined : {X : Type 0} (f : X → List ℕ) (x : X) (xs : List X) → f x ++ flat_map (λ y. 32 ∷ f y) xs ≡ join_with_byte 32 (map f (x ∷ xs))
joined f x [] = append-nil (f x)
joined f x (y ∷ ys) = ap (λ z. f x ++ (32 ∷ z)) (joined f y ys)

rest : {X : Type 0} (x : X) (xs : List X) → take (length (x ∷ xs) - 1) (drop 1 (x ∷ xs)) ≡ xs
rest x xs = take_all (length (x ∷ xs) - 1) xs (omega arith)

-- the first word, and then the others
pub joined-first : {X : Type 0} (f : X → List ℕ) (xs : List X) (d : X) (t u v : List ℕ) → 1 ≤ length xs → u ≡ t ++ f (get_or xs 0 d)
    → v ≡ u ++ flat_map (λ y. 32 ∷ f y) (take (length xs - 1) (drop 1 xs)) → v ≡ t ++ join_with_byte 32 (map f xs)
joined-first f [] d t u v some e e2 = absurd (omega arith)
joined-first f (x ∷ xs) d t u v some e e2 =
    e2 ∙ ap (λ ys. u ++ flat_map (λ y. 32 ∷ f y) ys) (rest x xs)
    ∙ ap (λ z. z ++ flat_map (λ y. 32 ∷ f y) xs) e
    ∙ append_assoc t (f x) (flat_map (λ y. 32 ∷ f y) xs)
    ∙ ap (λ z. t ++ z) (joined f x xs)

-- what follows where a call succeeded
pub on_ok : {A E P Q : Type 0} (r : Result A E) → (P → Q) → OnOk r P → OnOk r Q
on_ok (Ok x) f p = f p
on_ok (Err e) f p = p

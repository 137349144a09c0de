-- The first change whose key has another value than the one that is told.
use Rattle.std.proofs.Common.{◌≡◌, ℕ, suc, ◌+◌, ◌-◌, ◌≤◌, ◌<◌, true, false, List, [], ◌∷◌, length, get_or, take, drop, refl, ap, ◌∙◌, arith, Option, Ok, Err}
use Rattle.spec.specs.Reading.{◌>>=◌, ensure}
use Rattle.key_changes.proofs.Lists.{head-tail}
use Rattle.change_laws.specs.Told.{KeyChange}
use Rattle.change_laws.specs.Given.{OtherValue}
use Rattle.change_laws.specs.Verdict.{is_same, are_told}

-- a list without a first element
pub none-below : {X : Type 0} (xs : List X) → length xs < 1 → xs ≡ []
none-below [] h = refl
none-below (x ∷ xs) h = absurd (omega arith)

abbrev rest_of : {X : Type 0} → List X → List X
rest_of xs = take (length xs - 1) (drop 1 xs)

-- there is no value for a change
pub values-lack : (place : ℕ) (vs : List (Option (List ℕ))) (left : List KeyChange) (x : KeyChange) → vs ≡ []
    → 1 ≤ length left → x ≡ get_or left 0 x → are_told place vs left ≡ Err (OtherValue place)
values-lack place vs left x e h is =
    ap (λ us. are_told place us left) e ∙ ap (λ t. are_told place [] t) (head-tail left x h is)

both-first : (place : ℕ) (vs : List (Option (List ℕ))) (v : Option (List ℕ)) (left : List KeyChange) (x : KeyChange)
    → 1 ≤ length vs → v ≡ get_or vs 0 v → 1 ≤ length left → x ≡ get_or left 0 x
    → are_told place vs left
    ≡ (ensure (is_same v x.after) (OtherValue place) >>= (λ same. are_told (suc place) (rest_of vs) (rest_of left)))
both-first place vs v left x k first h is =
    ap (λ us. are_told place us left) (head-tail vs v k first)
    ∙ ap (λ t. are_told place (v ∷ rest_of vs) t) (head-tail left x h is)

-- it is another one
pub values-other : (place : ℕ) (vs : List (Option (List ℕ))) (v : Option (List ℕ)) (left : List KeyChange) (x : KeyChange)
    → 1 ≤ length vs → v ≡ get_or vs 0 v → 1 ≤ length left → x ≡ get_or left 0 x → is_same v x.after ≡ false
    → are_told place vs left ≡ Err (OtherValue place)
values-other place vs v left x k first h is e =
    both-first place vs v left x k first h is
    ∙ ap (λ b. ensure b (OtherValue place) >>= (λ same. are_told (suc place) (rest_of vs) (rest_of left))) e

-- it is the one that is told, and so it goes on
pub values-next : (place next : ℕ) (vs : List (Option (List ℕ))) (v : Option (List ℕ)) (left : List KeyChange)
    (x : KeyChange) → 1 ≤ length vs → v ≡ get_or vs 0 v → 1 ≤ length left → x ≡ get_or left 0 x → next ≡ place + 1
    → is_same v x.after ≡ true → are_told place vs left ≡ are_told next (rest_of vs) (rest_of left)
values-next place next vs v left x k first h is n e =
    let more : suc place ≡ next = omega arith in
    both-first place vs v left x k first h is
    ∙ ap (λ b. ensure b (OtherValue place) >>= (λ same. are_told (suc place) (rest_of vs) (rest_of left))) e
    ∙ ap (λ m. are_told m (rest_of vs) (rest_of left)) more

-- no change is left
no-change : (place : ℕ) (vs : List (Option (List ℕ))) → are_told place vs [] ≡ Ok tt
no-change place [] = refl
no-change place (v ∷ vs) = refl

pub values-end : (place : ℕ) (vs : List (Option (List ℕ))) (left : List KeyChange) → left ≡ []
    → are_told place vs left ≡ Ok tt
values-end place vs left e = ap (λ t. are_told place vs t) e ∙ no-change place vs

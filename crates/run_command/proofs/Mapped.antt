-- Tests and splits of lists whose elements are seen by a function.
use Rattle.std.proofs.Common.{◌≡◌, Bool, true, false, cond, List, [], ◌∷◌, ◌||◌, map, refl, sym, ap, ◌∙◌}
use Rattle.std.specs.List.{list_any, slice_split, onto_first}

pub any_in_map : {A B : Type 0} (p : B → Bool) (f : A → B) (xs : List A) → list_any (λ x. p (f x)) xs ≡ list_any p (map f xs)
any_in_map p f [] = refl
any_in_map p f (x ∷ xs) = ap (λ b. p (f x) || b) (any_in_map p f xs)

onto_first-map : {A B : Type 0} (f : A → B) (x : A) (parts : List (List A)) → onto_first (f x) (map (map f) parts) ≡ map (map f) (onto_first x parts)
onto_first-map f x [] = refl
onto_first-map f x (part ∷ parts) = refl

choice : {A B : Type 0} (f : A → B) (x : A) (b : Bool) (parts : List (List A)) → cond b ([] ∷ map (map f) parts) (onto_first (f x) (map (map f) parts)) ≡ map (map f) (cond b ([] ∷ parts) (onto_first x parts))
choice f x true parts = refl
choice f x false parts = onto_first-map f x parts

pub split_map : {A B : Type 0} (p : B → Bool) (f : A → B) (xs : List A) → map (map f) (slice_split (λ x. p (f x)) xs) ≡ slice_split p (map f xs)
split_map p f [] = refl
split_map p f (x ∷ xs) =
    sym (choice f x (p (f x)) (slice_split (λ x. p (f x)) xs))
    ∙ ap (λ parts. cond (p (f x)) ([] ∷ parts) (onto_first (f x) parts)) (split_map p f xs)

map_twice : {A B C : Type 0} (f : A → B) (h : C → List A) (parts : List C) → map (λ g. map f (h g)) parts ≡ map (map f) (map h parts)
map_twice f h [] = refl
map_twice f h (g ∷ parts) = ap (λ rest. map f (h g) ∷ rest) (map_twice f h parts)

pub seen_split : {A B C : Type 0} (p : B → Bool) (f : A → B) (h : C → List A) (xs : List A) (parts : List C) → map h parts ≡ slice_split (λ x. p (f x)) xs → map (λ g. map f (h g)) parts ≡ slice_split p (map f xs)
seen_split p f h xs parts e = map_twice f h parts ∙ ap (map (map f)) e ∙ split_map p f xs

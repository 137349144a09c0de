-- How what is spelt grows, one element after another.
use Rattle.std.proofs.Common.{◌≡◌, ◌<◌, ◌+◌, ℕ, List, ◌++◌, drop, length, map, slice_index_or, ap, sym, ◌∙◌}
use Rattle.std.specs.List.{flat_map}
use Rattle.std.proofs.lemmas.List.{append_assoc, drop_more}

-- where one more element is spelt behind the others
pub spelt_next : {X : Type 0} (spell : X → List ℕ) (whole old new : List ℕ) (xs : List X) (i : ℕ) (x : X)
    → i < length xs → new ≡ old ++ spell (slice_index_or xs i x)
    → whole ≡ old ++ flat_map spell (drop i xs) → whole ≡ new ++ flat_map spell (drop (i + 1) xs)
spelt_next {X} spell whole old new xs i x within put inv =
    let rest : List ℕ = flat_map spell (drop (i + 1) xs) in
    inv ∙ ap (λ (ys : List X). old ++ flat_map spell ys) (drop_more xs i x within)
    ∙ sym (append_assoc old (spell (slice_index_or xs i x)) rest)
    ∙ ap (λ (front : List ℕ). front ++ rest) (sym put)

-- the same where an element is seen as another
pub seen_next : {X Y : Type 0} (spell : Y → List ℕ) (view : X → Y) (whole old new : List ℕ) (xs : List X) (i : ℕ) (x : X)
    → i < length xs → new ≡ old ++ spell (view (slice_index_or xs i x))
    → whole ≡ old ++ flat_map spell (map view (drop i xs)) → whole ≡ new ++ flat_map spell (map view (drop (i + 1) xs))
seen_next {X} spell view whole old new xs i x within put inv =
    let rest : List ℕ = flat_map spell (map view (drop (i + 1) xs)) in
    inv ∙ ap (λ (ys : List X). old ++ flat_map spell (map view ys)) (drop_more xs i x within)
    ∙ sym (append_assoc old (spell (view (slice_index_or xs i x))) rest)
    ∙ ap (λ (front : List ℕ). front ++ rest) (sym put)

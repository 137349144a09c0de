-- How the parts of a list are cut, one after another.
use Rattle.std.proofs.Common.{◌≡◌, ◌<◌, ◌≤◌, ◌+◌, ℕ, List, [], ◌∷◌, ◌++◌, drop, length, map, slice_index_or, refl, ap, sym, ◌∙◌}
use Rattle.std.specs.Prelude.{Option, Some, None, option_map}
use Rattle.std.proofs.lemmas.List.{append_assoc, append-nil, drop_more, map-append}
use Rattle.std.proofs.Math.ListN.{drop_of_length-le}
use Rattle.buffers.specs.Framing.{part_at, before, cut, onto}

pub onto_next : {A : Type 0} (parts : List A) (p : A) (others : Option (List A)) → onto parts (option_map (λ more. p ∷ more) others) ≡ onto (parts ++ p ∷ []) others
onto_next parts p None = refl
onto_next parts p (Some more) = ap Some (sym (append_assoc parts (p ∷ []) more))

-- where one more part is there, and is put behind the others
pub cut_next : {V : Type 0} (view : V → List ℕ) (all : Option (List (List ℕ))) (old new : List V) (v : V) (ends : List ℕ) (i start : ℕ) (rest p after : List ℕ)
    → new ≡ old ++ v ∷ [] → view v ≡ p
    → all ≡ onto (map view old) (cut start (drop i ends) rest) → i < length ends → part_at start (slice_index_or ends i 0) rest ≡ Some (p, after)
    → all ≡ onto (map view new) (cut (slice_index_or ends i 0) (drop (i + 1) ends) after)
cut_next {V} view all old new v ends i start rest p after put is_p inv within is =
    let others : Option (List (List ℕ)) = cut (slice_index_or ends i 0) (drop (i + 1) ends) after in
    inv ∙ ap (λ (es : List ℕ). onto (map view old) (cut start es rest)) (drop_more ends i 0 within)
    ∙ ap (λ (o : Option (List ℕ × List ℕ)). onto (map view old) (before o (cut (slice_index_or ends i 0) (drop (i + 1) ends)))) is
    ∙ onto_next (map view old) p others
    ∙ ap (λ (q : List ℕ). onto (map view old ++ q ∷ []) others) (sym is_p)
    ∙ ap (λ (ps : List (List ℕ)). onto ps others) (sym (ap (map view) put ∙ map-append view old (v ∷ [])))

-- where it isn't
pub cut_none : (all : Option (List (List ℕ))) (parts : List (List ℕ)) (ends : List ℕ) (i start : ℕ) (rest : List ℕ)
    → all ≡ onto parts (cut start (drop i ends) rest) → i < length ends → part_at start (slice_index_or ends i 0) rest ≡ None → None ≡ all
cut_none all parts ends i start rest inv within is =
    sym (inv ∙ ap (λ (es : List ℕ). onto parts (cut start es rest)) (drop_more ends i 0 within)
    ∙ ap (λ (o : Option (List ℕ × List ℕ)). onto parts (before o (cut (slice_index_or ends i 0) (drop (i + 1) ends)))) is)

-- where no more are asked for
pub cut_done : (all : Option (List (List ℕ))) (parts : List (List ℕ)) (ends : List ℕ) (i start : ℕ) (rest : List ℕ)
    → all ≡ onto parts (cut start (drop i ends) rest) → length ends ≤ i → Some parts ≡ all
cut_done all parts ends i start rest inv over =
    sym (inv ∙ ap (λ (es : List ℕ). onto parts (cut start es rest)) (drop_of_length-le ends over) ∙ ap Some (append-nil parts))

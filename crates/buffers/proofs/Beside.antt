-- How the values beside a list of parts are read, one after another.
use Rattle.std.proofs.Common.{◌≡◌, ◌<◌, ◌+◌, ℕ, List, [], ◌∷◌, ◌++◌, take, drop, length, map, slice_index_or, ap, sym, ◌∙◌}
use Rattle.std.specs.Prelude.{Option, Some, None}
use Rattle.std.proofs.lemmas.List.{drop_more, map-append}
use Rattle.buffers.specs.Framing.{beside, onto, with_values}
use Rattle.buffers.proofs.Cutting.{onto_next}

-- where there is one more, and it is put behind the others
pub value_next : {K V W : Type 0} (value : List ℕ → Option V) (key : K → List ℕ) (view : W → List ℕ × V) (none : K)
    (all : Option (List (List ℕ × V))) (old new : List W) (w : W) (ks : List K) (i : ℕ) (rest after : List ℕ) (v : V)
    → new ≡ old ++ w ∷ [] → view w ≡ (key (slice_index_or ks i none), v)
    → all ≡ onto (map view old) (with_values value (map key (drop i ks)) rest) → i < length ks
    → value (take 36 rest) ≡ Some v → after ≡ drop 36 rest
    → all ≡ onto (map view new) (with_values value (map key (drop (i + 1) ks)) after)
value_next {K} {V} value key view none all old new w ks i rest after v put is inv within found next =
    let k : List ℕ = key (slice_index_or ks i none) in
    let others : Option (List (List ℕ × V)) = with_values value (map key (drop (i + 1) ks)) (drop 36 rest) in
    inv ∙ ap (λ (xs : List K). onto (map view old) (with_values value (map key xs) rest)) (drop_more ks i none within)
    ∙ ap (λ (o : Option V). onto (map view old) (beside k o others)) found
    ∙ onto_next (map view old) (k, v) others
    ∙ ap (λ (q : List ℕ × V). onto (map view old ++ q ∷ []) others) (sym is)
    ∙ ap (λ (ps : List (List ℕ × V)). onto ps others) (sym (ap (map view) put ∙ map-append view old (w ∷ [])))
    ∙ ap (λ (r : List ℕ). onto (map view new) (with_values value (map key (drop (i + 1) ks)) r)) (sym next)

-- where it is none
pub value_none : {K V : Type 0} (value : List ℕ → Option V) (key : K → List ℕ) (none : K)
    (all : Option (List (List ℕ × V))) (old : List (List ℕ × V)) (ks : List K) (i : ℕ) (rest : List ℕ)
    → all ≡ onto old (with_values value (map key (drop i ks)) rest) → i < length ks
    → value (take 36 rest) ≡ None → None ≡ all
value_none {K} {V} value key none all old ks i rest inv within found =
    let k : List ℕ = key (slice_index_or ks i none) in
    let others : Option (List (List ℕ × V)) = with_values value (map key (drop (i + 1) ks)) (drop 36 rest) in
    sym (inv ∙ ap (λ (xs : List K). onto old (with_values value (map key xs) rest)) (drop_more ks i none within)
    ∙ ap (λ (o : Option V). onto old (beside k o others)) found)

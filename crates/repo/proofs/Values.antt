-- Values that are given, one after the other.
use Rattle.std.proofs.Common.{◌≡◌, ◌<◌, ◌+◌, ℕ, List, [], ◌∷◌, ◌++◌, length, get_or, take, refl, sym, ap, ◌∙◌, Option, None}
use Rattle.std.specs.declared.option.Option.TheVariants.{Some}
use Rattle.std.specs.List.{cons_option}
use Rattle.std.proofs.lemmas.List.{append_assoc}
use Rattle.batch_laws.specs.Uses.{present_values}
use Rattle.kept.proofs.Exchanging.{one_further}

given-append : (os ps : List (Option (List ℕ))) → present_values (os ++ ps) ≡ present_values os ++ present_values ps
given-append [] ps = refl
given-append (None ∷ os) ps = given-append os ps
given-append (Some c ∷ os) ps = ap (λ (cs : List (List ℕ)). c ∷ cs) (given-append os ps)

-- one more comes behind others
pub one-more-given : (nodes all new : List (List ℕ)) (os : List (Option (List ℕ))) (i : ℕ) (o : Option (List ℕ)) → i < length os
    → o ≡ get_or os i o → all ≡ nodes ++ present_values (take i os) → new ≡ all ++ cons_option o [] → new ≡ nodes ++ present_values (take (i + 1) os)
one-more-given nodes all new os i o l e h n =
    n ∙ ap (λ (cs : List (List ℕ)). cs ++ cons_option o []) h
    ∙ append_assoc nodes (present_values (take i os)) (cons_option o [])
    ∙ ap (λ (cs : List (List ℕ)). nodes ++ cs) (sym (given-append (take i os) (o ∷ [])))
    ∙ ap (λ (ps : List (Option (List ℕ))). nodes ++ present_values ps) (sym (one_further os i o l e))

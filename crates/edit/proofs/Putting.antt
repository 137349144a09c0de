-- Pairs that come where the old tree has nothing.
use Rattle.std.proofs.Common.{◌≡◌, ℕ, suc, List, [], ◌∷◌, ◌++◌, drop, refl, sym, ap, ◌∙◌, Option, Err, Ok}
use Rattle.std.proofs.lemmas.List.{append_assoc}
use Rattle.std.specs.declared.option.Option.TheVariants.{Some, None}
use Rattle.spec.specs.Tree.{Pair}
use Rattle.spec.specs.NodeFormat.{Shape}
use Rattle.batch_laws.specs.Batch.{Change, if_put, puts}
use Rattle.batch_laws.specs.Previous.{no_values}
use Rattle.batch_laws.specs.Links.{LinkEdge, Log, and_then, pairing, pairs_in_turn, Step}

same-state : (x y : LinkEdge × Log) → ◌≡◌ {A = Step LinkEdge} (Ok x) (Ok y) → x ≡ y
same-state x y h = cc

module _ (digest : List ℕ → List ℕ) (shows : List ℕ → Option Shape) (depth : List ℕ → ℕ) where
  pub alone : (x : Step LinkEdge) → and_then x (pairs_in_turn digest shows depth []) ≡ x
  alone (Err stop) = refl
  alone (Ok x) = refl

  pub one-pair : (e : Pair) (d : ℕ) (s t : LinkEdge) (log later : Log) → d ≡ depth e.0
      → pairing digest shows d e s log ≡ Ok (t, later)
      → pairs_in_turn digest shows depth (e ∷ []) s log ≡ Ok (t, later)
  one-pair e d s t log later h p =
      alone (pairing digest shows (depth e.0) e s log) ∙ ap (λ m. pairing digest shows m e s log) (sym h) ∙ p

  -- one change, and then the others
  put-on : (key : List ℕ) (v : Option (List ℕ)) (rest : List Pair) (s t : LinkEdge) (log later : Log)
      → pairs_in_turn digest shows depth (if_put key v []) s log ≡ Ok (t, later)
      → pairs_in_turn digest shows depth (if_put key v rest) s log ≡ pairs_in_turn digest shows depth rest t later
  put-on key None rest s t log later h =
      ap (λ x. pairs_in_turn digest shows depth rest x.0 x.1) (same-state (s, log) (t, later) h)
  put-on key (Some w) rest s t log later h =
      ap (λ x. and_then x (pairs_in_turn digest shows depth rest))
      (sym (alone (pairing digest shows (depth key) (key, w) s log)) ∙ h)

  pub put-step : (all : Step LinkEdge) (cs : List Change) (i j : ℕ) (c : Change) (s t : LinkEdge) (log later : Log)
      → j ≡ suc i → drop i cs ≡ c ∷ drop (suc i) cs → all ≡ pairs_in_turn digest shows depth (puts (drop i cs)) s log
      → pairs_in_turn digest shows depth (if_put c.0 c.1 []) s log ≡ Ok (t, later)
      → all ≡ pairs_in_turn digest shows depth (puts (drop j cs)) t later
  put-step all cs i j c s t log later e d a p =
      a ∙ ap (λ ds. pairs_in_turn digest shows depth (puts ds) s log) d
      ∙ put-on c.0 c.1 (puts (drop (suc i) cs)) s t log later p
      ∙ ap (λ m. pairs_in_turn digest shows depth (puts (drop m cs)) t later) (sym e)

pub none-step : (all old new : List (Option (List ℕ))) (cs : List Change) (i j : ℕ) (c : Change)
    → j ≡ suc i → drop i cs ≡ c ∷ drop (suc i) cs → old ++ no_values (drop i cs) ≡ all → new ≡ old ++ (None ∷ [])
    → new ++ no_values (drop j cs) ≡ all
none-step all old new cs i j c e d a n =
    ap (λ ys. ys ++ no_values (drop j cs)) n ∙ append_assoc old (None ∷ []) (no_values (drop j cs))
    ∙ ap (λ m. old ++ (None ∷ no_values (drop m cs))) e ∙ sym (ap (λ ds. old ++ no_values ds) d) ∙ a

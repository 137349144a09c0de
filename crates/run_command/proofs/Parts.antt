-- Reading writes part by part: what was read, and what is left to read.
use Rattle.std.proofs.Common.{◌≡◌, ℕ, suc, ◌+◌, ◌<◌, ◌≤◌, List, [], ◌∷◌, ◌++◌, length, map, drop, get_or, refl, sym, ap, ◌∙◌, append_assoc, add-one}
use Rattle.std.specs.Prelude.{Option, Some, None}
use Rattle.std.proofs.lemmas.List.{append-nil, at_drop_all}
use Rattle.std.proofs.Math.Seq.{drop-cons}
use Rattle.spec.specs.Writes.{Write}
use Rattle.run_command.specs.Script.{and_then, write_of, writes_of_parts}

-- these writes, and then those of a further reading
abbrev pub onto : List Write → Option (List Write) → Option (List Write)
onto ws o = and_then o (λ more. Some (ws ++ more))

pub onto-nothing : (o : Option (List Write)) → o ≡ onto [] o
onto-nothing None = refl
onto-nothing (Some ws) = refl

onto-onto : (ws : List Write) (w : Write) (o : Option (List Write)) → onto ws (and_then o (λ more. Some (w ∷ more))) ≡ onto (ws ++ w ∷ []) o
onto-onto ws w None = refl
onto-onto ws w (Some more) = ap Some (sym (append_assoc ws (w ∷ []) more))

pub onto-write : (ws : List Write) (w : Write) (ts : List (List ℕ)) (parts : List (List (List ℕ))) → Some w ≡ write_of ts → onto ws (writes_of_parts (ts ∷ parts)) ≡ onto (ws ++ w ∷ []) (writes_of_parts parts)
unfolding writes_of_parts
onto-write ws w ts parts e =
    ap (λ (o : Option Write). onto ws (and_then o (λ x. and_then (writes_of_parts parts) (λ more. Some (x ∷ more))))) (sym e)
    ∙ onto-onto ws w (writes_of_parts parts)

pub onto-none : (ws : List Write) (ts : List (List ℕ)) (parts : List (List (List ℕ))) → None ≡ write_of ts → onto ws (writes_of_parts (ts ∷ parts)) ≡ None
unfolding writes_of_parts
onto-none ws ts parts e =
    ap (λ (o : Option Write). onto ws (and_then o (λ x. and_then (writes_of_parts parts) (λ more. Some (x ∷ more))))) (sym e)

pub onto-done : (ws : List Write) → onto ws (writes_of_parts []) ≡ Some ws
unfolding writes_of_parts
onto-done ws = ap Some (append-nil ws)

-- the same of parts that are seen by a function, from one of them on
module _ {X : Type 0} (f : X → List (List ℕ)) (xs : List X) (ws : List Write) (i : ℕ) where
  abbrev pub left : ℕ → Option (List Write)
  left j = writes_of_parts (map f (drop j xs))

  taken : (d : X) → i < length xs → left i ≡ writes_of_parts (f (get_or xs i d) ∷ map f (drop (suc i) xs))
  taken d lt = ap (λ ys. writes_of_parts (map f ys)) (drop-cons xs i d lt)

  pub left-write : (w : Write) (d : X) → i < length xs → Some w ≡ write_of (f (get_or xs i d)) → onto ws (left i) ≡ onto (ws ++ w ∷ []) (left (i + 1))
  left-write w d lt e =
      ap (onto ws) (taken d lt) ∙ onto-write ws w (f (get_or xs i d)) (map f (drop (suc i) xs)) e
      ∙ ap (λ j. onto (ws ++ w ∷ []) (left j)) (sym (add-one i))

  pub left-none : (d : X) → i < length xs → None ≡ write_of (f (get_or xs i d)) → onto ws (left i) ≡ None
  left-none d lt e = ap (onto ws) (taken d lt) ∙ onto-none ws (f (get_or xs i d)) (map f (drop (suc i) xs)) e

  pub left-done : length xs ≤ i → onto ws (left i) ≡ Some ws
  left-done le = at_drop_all (λ ys. onto ws (writes_of_parts (map f ys))) xs i le ∙ onto-done ws

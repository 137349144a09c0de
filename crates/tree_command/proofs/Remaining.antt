-- Reading pairs line by line: what was read, and what is left to read.
use Rattle.std.proofs.Common.{◌≡◌, ℕ, List, [], ◌∷◌, ◌++◌, refl, sym, ap, ◌∙◌, append_assoc}
use Rattle.std.specs.Prelude.{Result, Ok, Err}
use Rattle.std.proofs.lemmas.List.{append-nil}
use Rattle.spec.specs.Reading.{◌>>=◌}
use Rattle.spec.specs.Tree.{Pair}
use Rattle.tree_command.specs.declared.keys.Keys.{Keys}
use Rattle.tree_command.specs.TreeText.{LineFault, TreeFault, Line, pair_of_line, at_line, pairs_of_lines}

-- these pairs, and then those of a further reading
abbrev pub onto : List Pair → Result (List Pair) TreeFault → Result (List Pair) TreeFault
onto es r = r >>= (λ more. Ok (es ++ more))

pub onto-nothing : (r : Result (List Pair) TreeFault) → r ≡ onto [] r
onto-nothing (Ok es) = refl
onto-nothing (Err f) = refl

onto-more : (es : List Pair) (e : Pair) (r : Result (List Pair) TreeFault) → onto es (r >>= (λ more. Ok (e ∷ more))) ≡ onto (es ++ e ∷ []) r
onto-more es e (Ok more) = ap Ok (sym (append_assoc es (e ∷ []) more))
onto-more es e (Err f) = refl

pub onto-done : (taken : Keys) (es : List Pair) → onto es (pairs_of_lines taken []) ≡ Ok es
unfolding pairs_of_lines
onto-done taken es = ap Ok (append-nil es)

module _ (taken : Keys) (es : List Pair) (n : ℕ) (l : List ℕ) (ls : List (ℕ × List ℕ)) where
  pub onto-pair : (e : Pair) → pair_of_line taken l ≡ Ok e → onto es (pairs_of_lines taken ((n, l) ∷ ls)) ≡ onto (es ++ e ∷ []) (pairs_of_lines taken ls)
  unfolding pairs_of_lines
  onto-pair e is =
      ap (λ (r : Result Pair LineFault). onto es (at_line n r >>= (λ f. pairs_of_lines taken ls >>= (λ more. Ok (f ∷ more))))) is
      ∙ onto-more es e (pairs_of_lines taken ls)

  pub onto-fault : (f : LineFault) → pair_of_line taken l ≡ Err f → onto es (pairs_of_lines taken ((n, l) ∷ ls)) ≡ Err (Line n f)
  unfolding pairs_of_lines
  onto-fault f is =
      ap (λ (r : Result Pair LineFault). onto es (at_line n r >>= (λ e. pairs_of_lines taken ls >>= (λ more. Ok (e ∷ more))))) is

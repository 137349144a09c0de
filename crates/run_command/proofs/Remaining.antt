-- Reading a script line by line: what was read, and what is left to read.
use Rattle.std.proofs.Common.{◌≡◌, ℕ, List, [], ◌∷◌, ◌++◌, refl, sym, ap, ◌∙◌, append_assoc}
use Rattle.std.specs.Prelude.{Option, Some, None, Result, Ok, Err}
use Rattle.std.proofs.lemmas.List.{append-nil}
use Rattle.spec.specs.Reading.{◌>>=◌}
use Rattle.run_command.specs.Script.{ScriptLine, line_of, or_faulty, script_of_lines}

abbrev pub Lines : Type 0
Lines = List ScriptLine

-- these lines, and then those of a further reading
abbrev pub onto : Lines → Result Lines ℕ → Result Lines ℕ
onto bs r = r >>= (λ more. Ok (bs ++ more))

pub onto_nothing : (r : Result Lines ℕ) → r ≡ onto [] r
onto_nothing (Ok bs) = refl
onto_nothing (Err f) = refl

onto_more : (bs : Lines) (b : ScriptLine) (r : Result Lines ℕ) → onto bs (r >>= (λ more. Ok (b ∷ more))) ≡ onto (bs ++ b ∷ []) r
onto_more bs b (Ok more) = ap Ok (sym (append_assoc bs (b ∷ []) more))
onto_more bs b (Err f) = refl

module _ (workers : ℕ) (did : List ℕ) (bs : Lines) where
  abbrev pub left : List (ℕ × List ℕ) → Result Lines ℕ
  left ls = script_of_lines workers did ls

  pub onto_done : onto bs (left []) ≡ Ok bs
  unfolding script_of_lines
  onto_done = ap Ok (append-nil bs)

  module _ (n : ℕ) (l : List ℕ) (ls : List (ℕ × List ℕ)) where
    pub onto_line : (b : ScriptLine) → Some b ≡ line_of workers did n l → onto bs (left ((n, l) ∷ ls)) ≡ onto (bs ++ b ∷ []) (left ls)
    unfolding script_of_lines
    onto_line b is =
        ap (λ (o : Option ScriptLine). onto bs (or_faulty n o >>= (λ one. left ls >>= (λ more. Ok (one ∷ more))))) (sym is) ∙ onto_more bs b (left ls)

    pub onto_fault : None ≡ line_of workers did n l → onto bs (left ((n, l) ∷ ls)) ≡ Err n
    unfolding script_of_lines
    onto_fault is = ap (λ (o : Option ScriptLine). onto bs (or_faulty n o >>= (λ one. left ls >>= (λ more. Ok (one ∷ more))))) (sym is)

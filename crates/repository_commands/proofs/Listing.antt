-- Reading blocks line by line: what was read, and what is left to read.
use Rattle.std.proofs.Common.{◌≡◌, ℕ, List, [], ◌∷◌, ◌++◌, refl, sym, ap, ◌∙◌, append_assoc}
use Rattle.std.specs.Prelude.{Option, Some, None, Result, Ok, Err}
use Rattle.std.proofs.lemmas.List.{append-nil}
use Rattle.spec.specs.Reading.{◌>>=◌}
use Rattle.console.specs.Lines.{bytes_of_hex}
use Rattle.repository_commands.specs.Faults.{Fault, Line, BadLine}
use Rattle.repository_commands.specs.Texts.{blocks_of_lines, or_bad_line}

abbrev pub Blocks : Type 0
Blocks = List (List ℕ)

-- these blocks, and then those of a further reading
abbrev pub onto : Blocks → Result Blocks Fault → Result Blocks Fault
onto bs r = r >>= (λ more. Ok (bs ++ more))

pub onto_nothing : (r : Result Blocks Fault) → r ≡ onto [] r
onto_nothing (Ok bs) = refl
onto_nothing (Err f) = refl

onto_onto : (bs : Blocks) (b : List ℕ) (r : Result Blocks Fault) → onto bs (onto (b ∷ []) r) ≡ onto (bs ++ b ∷ []) r
onto_onto bs b (Ok more) = ap Ok (sym (append_assoc bs (b ∷ []) more))
onto_onto bs b (Err f) = refl

pub onto_done : (bs : Blocks) → onto bs (blocks_of_lines []) ≡ Ok bs
unfolding blocks_of_lines
onto_done bs = ap Ok (append-nil bs)

module _ (n : ℕ) (bs : Blocks) (l : List ℕ) (ls : List (ℕ × List ℕ)) where
  pub onto_block : (b : List ℕ) → Some b ≡ bytes_of_hex l → onto bs (blocks_of_lines ((n, l) ∷ ls)) ≡ onto (bs ++ b ∷ []) (blocks_of_lines ls)
  unfolding blocks_of_lines
  onto_block b is =
      ap (λ (o : Option (List ℕ)). onto bs (or_bad_line n o >>= (λ fs. blocks_of_lines ls >>= (λ more. Ok (fs ++ more))))) (sym is) ∙ onto_onto bs b (blocks_of_lines ls)

  pub onto_fault : None ≡ bytes_of_hex l → onto bs (blocks_of_lines ((n, l) ∷ ls)) ≡ Err (Line n BadLine)
  unfolding blocks_of_lines
  onto_fault is =
      ap (λ (o : Option (List ℕ)). onto bs (or_bad_line n o >>= (λ fs. blocks_of_lines ls >>= (λ more. Ok (fs ++ more))))) (sym is)

-- Reading records line by line: what was read, and what is left to read.
use Rattle.std.proofs.Common.{◌≡◌, ℕ, List, [], ◌∷◌, ◌++◌, refl, sym, ap, ◌∙◌, append_assoc}
use Rattle.std.specs.Prelude.{Option, Some, None, Result, Ok, Err, option_map}
use Rattle.std.proofs.lemmas.List.{append-nil}
use Rattle.spec.specs.Reading.{◌>>=◌, Fails}
use Rattle.export_commands.specs.Texts.{Records}
use Rattle.difference_commands.specs.RecordLines.{LineFault, LinesFault, Line, at_line, record_of_line, records_of_lines}

abbrev pub Reading : Type 0
Reading = Result Records LinesFault

-- these records, and then those of a further reading
abbrev pub onto : Records → Reading → Reading
onto es r = r >>= (λ more. Ok (es ++ more))

pub onto-nothing : (r : Reading) → r ≡ onto [] r
onto-nothing (Ok es) = refl
onto-nothing (Err f) = refl

onto-more : (es : Records) (e : List ℕ × List ℕ) (r : Reading) → onto es (r >>= (λ more. Ok (e ∷ more))) ≡ onto (es ++ e ∷ []) r
onto-more es e (Ok more) = ap Ok (sym (append_assoc es (e ∷ []) more))
onto-more es e (Err f) = refl

pub onto-done : (es : Records) → onto es (records_of_lines []) ≡ Ok es
unfolding records_of_lines
onto-done es = ap Ok (append-nil es)

module _ (es : Records) (n : ℕ) (l : List ℕ) (ls : List (ℕ × List ℕ)) where
  pub onto-record : (e : List ℕ × List ℕ) → record_of_line l ≡ Ok e
      → onto es (records_of_lines ((n, l) ∷ ls)) ≡ onto (es ++ e ∷ []) (records_of_lines ls)
  unfolding records_of_lines
  onto-record e is =
      ap (λ (r : Result (List ℕ × List ℕ) LineFault). onto es (at_line n r >>= (λ f. records_of_lines ls >>= (λ more. Ok (f ∷ more))))) is
      ∙ onto-more es e (records_of_lines ls)

  pub onto-fault : (f : LineFault) → record_of_line l ≡ Err f → onto es (records_of_lines ((n, l) ∷ ls)) ≡ Err (Line n f)
  unfolding records_of_lines
  onto-fault f is =
      ap (λ (r : Result (List ℕ × List ℕ) LineFault). onto es (at_line n r >>= (λ e. records_of_lines ls >>= (λ more. Ok (e ∷ more))))) is

  -- a fault that the definitions know or not
  pub onto-fails : (o : Option LineFault) → Fails o (record_of_line l)
      → Fails (option_map (Line n) o) (onto es (records_of_lines ((n, l) ∷ ls)))
  onto-fails None h = tt
  onto-fails (Some f) h = onto-fault f h

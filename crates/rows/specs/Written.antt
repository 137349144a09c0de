-- What a writer has of a node.
use Rattle.std.specs.Prelude.{ℕ, Bool, true, false, List, [], ◌∷◌, Option}
use Rattle.spec.specs.Tree.{Pair}
use Rattle.rows.specs.declared.writer.Rows as code
use Rattle.rows.specs.declared.writer.Rows.TheVariants as variants

-- whether there is a pair
abbrev pub has_rows : List (Option (List ℕ) × Pair) → Bool
has_rows [] = false
has_rows (x ∷ xs) = true

abbrev pub rows_in : {A : Type 0} → code.Rows A → List (Option (List ℕ) × Pair)
rows_in variants.Nothing = []
rows_in (variants.Open rows) = rows

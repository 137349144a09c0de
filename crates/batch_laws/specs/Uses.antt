-- Which blocks of records come and go with changes at once.
use Rattle.std.specs.Prelude.{ℕ, List, [], ◌∷◌, map, Option}
use Rattle.std.specs.List.{cons_option}
use Rattle.spec.specs.Blocks.{pairs}
use Rattle.batch_laws.specs.Batch.{Change}
use Rattle.batch_laws.specs.Previous.{values}

-- the values that there are, in order
abbrev pub present_values : List (Option (List ℕ)) → List (List ℕ)
present_values [] = []
present_values (o ∷ os) = cons_option o (present_values os)

-- the records that changes bring, one for each change with a value
abbrev pub records_come : List Change → List (List ℕ)
records_come cs = present_values (map (λ c. c.1) cs)

-- the CIDs of the records that their keys had before, where they had one
abbrev pub cids_gone : (List ℕ → List ℕ) → List Change → List (List ℕ × List ℕ) → List (List ℕ)
cids_gone digest cs m = present_values (values cs (pairs digest m))

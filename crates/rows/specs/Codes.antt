-- Nodes as values of a type's model.
use Rattle.std.specs.Prelude.{◌≡◌, ℕ, List, Option}
use Rattle.std.specs.Coded.{Coded, code_by, coded_ℕ, coded_list, coded_option, coded×}
use Rattle.std.proofs.Common.{refl}
use Rattle.spec.specs.Tree.{Pair}
use Rattle.spec.specs.NodeFormat.{Shape, LastLink, MoreLinks}
use Rattle.edit_laws.specs.ShapeEdit.{last_link}
use Rattle.rows.specs.Drafts.{onto, all_pairs}
use Rattle.rows.specs.Entries.{Reading}

abbrev text_code : Coded (List ℕ)
text_code = coded_list coded_ℕ

abbrev link_code : Coded (Option (List ℕ))
link_code = coded_option text_code

pub onto-pairs : (s : Shape) → onto (all_pairs s) (LastLink (last_link s)) ≡ s
onto-pairs (LastLink l) = refl
onto-pairs (MoreLinks l e r) = rw (onto-pairs r) refl

abbrev rows_code : Coded (List (Option (List ℕ) × Pair))
rows_code = coded_list (coded× link_code (coded× text_code text_code))

-- a node is stored as its pairs, each with the link before it, and the last link
abbrev pub shape_code : Coded Shape
shape_code =
    code_by (List (Option (List ℕ) × Pair) × Option (List ℕ)) (coded× rows_code link_code)
    (λ s. (all_pairs s, last_link s)) (λ x. onto x.0 (LastLink x.1)) onto-pairs

abbrev pub reading_code : Coded Reading
reading_code =
    code_by (List ℕ × (List (Option (List ℕ) × Pair) × (ℕ × Shape)))
    (coded× text_code (coded× rows_code (coded× coded_ℕ shape_code)))
    (λ r. (r.before, (r.passed, (r.start, r.rest))))
    (λ x. record { before = x.0; passed = x.1.0; start = x.1.1.0; rest = x.1.1.1 }) (λ _. refl)

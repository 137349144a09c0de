-- The layer of a node, by its first row.
use Rattle.std.proofs.Common.{◌≡◌, ℕ, List, [], ◌∷◌, Option, refl, sym, ap}
use Rattle.spec.specs.NodeFormat.{Entry}
use Rattle.node.specs.Rows.{Row, row_after, rows}
use Rattle.edit_laws.specs.ShapeEdit.{layer_of_shape}
use Rattle.edit_laws.specs.Sources.{shape_from}

pub top-some : (layer : List ℕ → ℕ) (left : Option (List ℕ)) (es : List Entry) (r : Row) (rs : List Row)
    → rows [] es ≡ r ∷ rs → layer r.suffix ≡ layer_of_shape layer (shape_from left es)
top-some layer left [] r rs h = absurd cc
top-some layer left (e ∷ es) r rs h = let q : row_after [] e ≡ r = cc in sym (ap (λ (x : Row). layer x.suffix) q)

pub top-none : (layer : List ℕ → ℕ) (left : Option (List ℕ)) (es : List Entry) → rows [] es ≡ []
    → 0 ≡ layer_of_shape layer (shape_from left es)
top-none layer left [] h = refl
top-none layer left (e ∷ es) h = absurd cc

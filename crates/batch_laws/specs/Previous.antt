-- The values that the keys of some changes had, in the order of the changes: what the walk meets on its way.
use Rattle.std.specs.Prelude.{ℕ, zero, suc, List, [], ◌∷◌, ◌++◌, map, Option, Some, None}
use Rattle.spec.specs.Tree.{Pair}
use Rattle.spec.specs.NodeFormat.{Shape, LastLink, MoreLinks}
use Rattle.spec.specs.Blocks.{value_of}
use Rattle.edit_laws.specs.ShapeEdit.{layer_of_shape}
use Rattle.batch_laws.specs.Batch.{Change, before, at_key, after}

-- of the pairs themselves
abbrev pub values : List Change → List Pair → List (Option (List ℕ))
values cs es = map (λ c. value_of c.0 es) cs

-- one none a change
abbrev pub no_values : List Change → List (Option (List ℕ))
no_values cs = map (λ c. None) cs

-- the value of a pair, where it is changed
abbrev pub value_met : Option (Option (List ℕ)) → Pair → List (Option (List ℕ))
value_met None e = []
value_met (Some v) e = Some e.1 ∷ []

-- of a node, whose gaps are walked by the first argument
abbrev pub previous_node : (Option (List ℕ) → List Change → List (Option (List ℕ))) → List Change → Shape
    → List (Option (List ℕ))
previous_node gap cs (LastLink l) = gap l cs
previous_node gap cs (MoreLinks l e r) =
    gap l (before e.0 cs) ++ (value_met (at_key e.0 cs) e ++ previous_node gap (after e.0 cs) r)

abbrev pub previous_shown : (Option (List ℕ) → List Change → List (Option (List ℕ))) → List Change → Option Shape
    → List (Option (List ℕ))
previous_shown gap cs None = []
previous_shown gap cs (Some s) = previous_node gap cs s

-- of a gap, whose subtree has at most k layers
abbrev pub previous_gap : (List ℕ → Option Shape) → ℕ → Option (List ℕ) → List Change → List (Option (List ℕ))
previous_gap shows zero None cs = no_values cs
previous_gap shows zero (Some c) cs = []
previous_gap shows (suc k) None cs = no_values cs
previous_gap shows (suc k) (Some c) [] = []
previous_gap shows (suc k) (Some c) (x ∷ cs) = previous_shown (previous_gap shows k) (x ∷ cs) (shows c)

-- of the whole tree
abbrev pub previous_top : (List ℕ → Option Shape) → (List ℕ → ℕ) → List Change → Shape → List (Option (List ℕ))
previous_top shows layer cs s = previous_node (previous_gap shows (layer_of_shape layer s)) cs s

-- A tree cut at a layer: the nodes below it, and how those of the layer itself are put on top of them.
use Rattle.std.specs.Prelude.{ℕ, Bool, true, false, cond, List, [], ◌∷◌, ◌++◌, map, take, length, nat_eq, Option, Some, None}
use Rattle.spec.specs.Cid.{cid}
use Rattle.spec.specs.Tree.{Pair}
use Rattle.spec.specs.NodeFormat.{Entry, node_spelling}

-- the nodes of a part in the order of the export, its top first; none, where it is no part
abbrev pub Nodes : Type 0
Nodes = List (List ℕ)

-- the nodes of the part before the first pair, and each pair with those of the part after it
pub record Cut : Type 0 where
  pub first : Nodes
  pub rows : List (Pair × Nodes)

-- the nodes of all parts
abbrev pub nodes_after : List (Pair × Nodes) → Nodes
nodes_after [] = []
nodes_after (r ∷ rs) = r.1 ++ nodes_after rs

abbrev pub nodes_of : Cut → Nodes
nodes_of c = c.first ++ nodes_after c.rows

-- the top of each part
abbrev pub tops_after : List (Pair × Nodes) → Nodes
tops_after [] = []
tops_after (r ∷ rs) = take 1 r.1 ++ tops_after rs

abbrev pub tops_of : Cut → Nodes
tops_of c = take 1 c.first ++ tops_after c.rows

-- the pairs
abbrev pub pairs_of_rows : List (Pair × Nodes) → List Pair
pairs_of_rows rs = map (λ r. r.0) rs

-- each pair with how many nodes the part after it has
abbrev pub counted : List (Pair × Nodes) → List (Pair × ℕ)
counted rs = map (λ r. (r.0, length r.1)) rs

-- ---- the nodes of layer n

-- the link to a part
abbrev pub link_to : (List ℕ → List ℕ) → Nodes → Option (List ℕ)
link_to digest [] = None
link_to digest (top ∷ under) = Some (cid digest top)

-- whether the next pair is of layer n
abbrev pub is_row_at : (List ℕ → ℕ) → ℕ → List (Pair × Nodes) → Bool
is_row_at layer n [] = false
is_row_at layer n (r ∷ rs) = nat_eq (layer r.0.0) n

-- the next pairs of layer n, as entries of a node
abbrev pub entries_next : (List ℕ → List ℕ) → (List ℕ → ℕ) → ℕ → List (Pair × Nodes) → List Entry
entries_next digest layer n [] = []
entries_next digest layer n (r ∷ rs) =
    cond (nat_eq (layer r.0.0) n) (record { key = r.0.0; value = r.0.1; tree = link_to digest r.1 } ∷ entries_next digest layer n rs) []

-- the nodes of the parts after them
abbrev pub under_next : (List ℕ → ℕ) → ℕ → List (Pair × Nodes) → Nodes
under_next layer n [] = []
under_next layer n (r ∷ rs) = cond (nat_eq (layer r.0.0) n) (r.1 ++ under_next layer n rs) []

-- what comes after them
abbrev pub rows_beyond : (List ℕ → ℕ) → ℕ → List (Pair × Nodes) → List (Pair × Nodes)
rows_beyond layer n [] = []
rows_beyond layer n (r ∷ rs) = cond (nat_eq (layer r.0.0) n) (rows_beyond layer n rs) (r ∷ rs)

-- whether there is a node of layer n next: a part below it, or a pair of it
abbrev pub is_node_next : (List ℕ → ℕ) → ℕ → Nodes → List (Pair × Nodes) → Bool
is_node_next layer n [] rs = is_row_at layer n rs
is_node_next layer n (top ∷ under) rs = true

module _ (digest : List ℕ → List ℕ) (layer : List ℕ → ℕ) (n : ℕ) where
  abbrev pub node_next : Nodes → List (Pair × Nodes) → List ℕ
  node_next first rs = node_spelling (link_to digest first) (entries_next digest layer n rs)

  -- that node and those under it
  abbrev pub part_next : Nodes → List (Pair × Nodes) → Nodes
  part_next first rs = cond (is_node_next layer n first rs) (node_next first rs ∷ first ++ under_next layer n rs) []

  -- the pairs above layer n, each with the part after it
  abbrev pub rows_raised : List (Pair × Nodes) → List (Pair × Nodes)
  rows_raised [] = []
  rows_raised (r ∷ rs) = cond (nat_eq (layer r.0.0) n) (rows_raised rs) ((r.0, part_next r.1 rs) ∷ rows_raised rs)

  abbrev pub part_next_of : Cut → Nodes
  part_next_of c = part_next c.first c.rows

  -- the cut at the next layer
  abbrev pub raised : Cut → Cut
  raised c = record { first = part_next_of c; rows = rows_raised c.rows }

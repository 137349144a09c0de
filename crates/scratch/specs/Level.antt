-- A cut as it is kept: all nodes in one list, and beside each row how many of them the part after it has.
use Rattle.std.specs.Prelude.{◌≡◌, ℕ, zero, suc, ◌+◌, List, [], ◌∷◌, ◌++◌, take, drop}
use Rattle.spec.specs.Tree.{Pair}
use Rattle.scratch.specs.Cut.{Nodes, Cut}
use Rattle.scratch.specs.Rows.{pair_of, AreLayered}
use Rattle.scratch.specs.declared.rows.Row.{Row}

-- the rows, each with its part of the nodes
abbrev pub rows_with : Nodes → List Row → List (Pair × Nodes)
rows_with nodes [] = []
rows_with nodes (r ∷ rs) = (pair_of r, take r.nodes_after nodes) ∷ rows_with (drop r.nodes_after nodes) rs

abbrev pub cut_with : ℕ → List Row → Nodes → Cut
cut_with first rows nodes = record { first = take first nodes; rows = rows_with (drop first nodes) rows }

-- how many nodes all parts after these rows have
abbrev pub count_after : List Row → ℕ
count_after [] = 0
count_after (r ∷ rs) = r.nodes_after + count_after rs

-- each node is in one part, and each row has the layer of its key
pub record IsLevel (layer : List ℕ → ℕ) (first : ℕ) (rows : List Row) (count : ℕ) : Type 0 where
  pub counted : first + count_after rows ≡ count
  pub layered : AreLayered layer rows

abbrev pub pair_and_count : Row → Pair × ℕ
pair_and_count r = (pair_of r, r.nodes_after)

-- ---- parts put together

-- a part with so many nodes: its top, and those under it
abbrev pub part_from : ℕ → Nodes → Nodes → Nodes
part_from zero tops under = []
part_from (suc n) tops under = take 1 tops ++ take n under

abbrev pub tops_left : ℕ → Nodes → Nodes
tops_left zero tops = tops
tops_left (suc n) tops = drop 1 tops

abbrev pub under_left : ℕ → Nodes → Nodes
under_left zero under = under
under_left (suc n) under = drop n under

-- the parts with these numbers of nodes, one after the other
abbrev pub parts_from : List ℕ → Nodes → Nodes → Nodes
parts_from [] tops under = []
parts_from (n ∷ ns) tops under = part_from n tops under ++ parts_from ns (tops_left n tops) (under_left n under)

-- What is left of a node that is read pair by pair.
use Rattle.std.specs.Prelude.{◌≡◌, ◌≤◌, ◌+◌, ◌-◌, ⊤, ℕ, suc, true, List, [], ◌∷◌, ◌++◌, length, take, drop, Option, Some, None}
use Rattle.spec.specs.Tree.{Pair}
use Rattle.spec.specs.NodeFormat.{Shape, LastLink, MoreLinks, are_keys_after}
use Rattle.node.specs.Contents.{Contents, last_key}
use Rattle.node.specs.Gaps.{GapIn, rows_behind}
use Rattle.node.specs.Rows.{Row}
use Rattle.node.specs.Search.{gap_at}
use Rattle.edit_laws.specs.Sources.{shape_from}
use Rattle.rows.specs.OldNodes.{linked, first_rows}

-- the key of the pair before, the empty one before the first pair; the pairs that were read, and how many of them stand before
-- the start of a run; and what is left as a node
pub record Reading : Type 0 where
  pub before : List ℕ
  pub passed : List (Option (List ℕ) × Pair)
  pub start : ℕ
  pub rest : Shape

-- the key of a row, after the key before
abbrev pub row_key : List ℕ → Row → List ℕ
row_key before r = take r.prefix before ++ r.suffix

-- a link and the rows after it as a node, after the key before
abbrev pub shape_of_rows : List ℕ → Option (List ℕ) → List Row → Shape
shape_of_rows before link [] = LastLink link
shape_of_rows before link (r ∷ rs) =
    let key = row_key before r in MoreLinks link (key, r.value) (shape_of_rows key r.tree rs)

-- the rows' keys can be put together in room for one key
abbrev pub AreKeys : List ℕ → List Row → Type 0
AreKeys before [] = ⊤
AreKeys before (r ∷ rs) = (r.prefix ≤ length before) × (r.prefix + length r.suffix ≤ 1024) × AreKeys (row_key before r) rs

-- what is left of a node from a link on, where the value of the next pair is known, and its key and what follows
abbrev pub shape_at : Option (List ℕ) → Option (List ℕ) → Reading → Shape
shape_at link None r = LastLink link
shape_at link (Some value) r = MoreLinks link (r.before, value) r.rest

-- the links and pairs of a node, as its view shows them
abbrev pub shape_of : Contents → Shape
shape_of n = shape_from n.left n.entries

-- a reader before the first pair of a node: all of it is left
abbrev pub unread : Contents → Reading
unread n = record { before = []; passed = []; start = 0; rest = shape_of n }

-- how many pairs are left
abbrev pub pairs_left : Shape → ℕ
pairs_left (LastLink l) = 0
pairs_left (MoreLinks l e r) = suc (pairs_left r)

-- the key of the last of some pairs, or the key before them
abbrev pub key_behind : List ℕ → List (Option (List ℕ) × Pair) → List ℕ
key_behind before [] = before
key_behind before (x ∷ xs) = key_behind x.1.0 xs

-- so many pairs of a node were read, the last with this key, and this is left
pub record IsReading (node : Contents) (passed : ℕ) (key : List ℕ) (link : Option (List ℕ)) (rows : List Row) : Type 0 where
  pub keys : AreKeys key rows
  pub within : passed ≤ length node.entries
  pub rest_is : shape_of_rows key link rows ≡ shape_from (gap_at passed node.left node.entries) (drop passed node.entries)
  pub key_is : key ≡ last_key [] (take passed node.entries)

-- what was read and what is left are the node's
pub record IsPartOf (node : Contents) (r : Reading) : Type 0 where
  pub within : length r.passed ≤ length node.entries
  pub passed_is : r.passed ≡ first_rows (length r.passed) node

-- a reader that stands in this gap of a node, where the key before is this one, and has noted the start of a run
abbrev pub reading_at : GapIn → ℕ → List ℕ → Reading
reading_at gap start key = record {
  before = key;
  passed = first_rows gap.passed gap.node;
  start = start;
  rest = shape_of_rows key (gap_at gap.passed gap.node.left gap.node.entries) (rows_behind gap.passed gap.node);
}

-- a reader stands in this gap of a node of the grammar, behind the last pair, and that pair stands behind the other gap; a run
-- starts in or before it
pub record IsReader (gap last start : GapIn) (key : List ℕ) : Type 0 where
  pub reading : IsReading gap.node gap.passed key (gap_at gap.passed gap.node.left gap.node.entries)
      (rows_behind gap.passed gap.node)
  pub ascending : are_keys_after [] gap.node.entries ≡ true
  pub last_node : last.node ≡ gap.node
  pub last_passed : last.passed ≡ gap.passed - 1
  pub start_node : start.node ≡ gap.node
  pub start_within : start.passed ≤ gap.passed

-- a gap behind so many pairs of the node that is read
pub record IsGapOf (gap : GapIn) (pairs : ℕ) (r : Reading) : Type 0 where
  pub part : IsPartOf gap.node r
  pub pairs_are : gap.passed ≡ pairs
  pub within : pairs ≤ length r.passed

-- two gaps of the node that is read, whose keys are of the grammar
pub record AreGapsOf (start end : GapIn) (pairs : ℕ) (r : Reading) : Type 0 where
  pub first : IsGapOf start r.start r
  pub then : IsGapOf end pairs r
  pub same : end.node ≡ start.node
  pub ascending : are_keys_after [] start.node.entries ≡ true

-- the pairs from this one on, up to that one
abbrev pub part_of : ℕ → ℕ → List (Option (List ℕ) × Pair) → List (Option (List ℕ) × Pair)
part_of from to rows = drop from (take to rows)

-- the same of a node
abbrev pub rows_between : ℕ → ℕ → Contents → List (Option (List ℕ) × Pair)
rows_between from to node = linked (gap_at from node.left node.entries) (take (to - from) (drop from node.entries))

-- Gaps of a node, each by where it stands in the node's bytes.
use Rattle.std.specs.Prelude.{◌≡◌, ◌≤◌, ℕ, List, [], ◌∷◌, ◌++◌, length, take, drop, Option}
use Rattle.spec.specs.NodeFormat.{link_or_null, entries_bytes}
use Rattle.node.specs.Contents.{Contents, last_key}
use Rattle.node.specs.Rows.{Row, rows}
use Rattle.node.specs.Search.{gap_at}

-- a node, and how many of its entries stand before a gap
pub record GapIn : Type 0 where
  pub node : Contents
  pub passed : ℕ

-- the bytes of a node behind so many entries, up to its end
abbrev pub bytes_behind : ℕ → Contents → List ℕ
bytes_behind n node =
    entries_bytes (last_key [] (take n node.entries)) (drop n node.entries) ++ (0x61 ∷ 0x6c ∷ link_or_null node.left)

-- the entries there as they are shown
abbrev pub rows_behind : ℕ → Contents → List Row
rows_behind n node = rows (last_key [] (take n node.entries)) (drop n node.entries)

-- the gap behind so many entries has this link, and these bytes behind it
pub record IsGap (node : Contents) (passed : ℕ) (link : Option (List ℕ)) (rest : List ℕ) : Type 0 where
  pub within : passed ≤ length node.entries
  pub link_is : link ≡ gap_at passed node.left node.entries
  pub rest_is : rest ≡ bytes_behind passed node

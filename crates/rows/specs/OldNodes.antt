-- The first pairs of an old node.
use Rattle.std.specs.Prelude.{ℕ, List, [], ◌∷◌, take, Option}
use Rattle.spec.specs.Tree.{Pair}
use Rattle.spec.specs.NodeFormat.{Entry}
use Rattle.node.specs.Contents.{Contents}

-- the pairs of entries, each with the link before it
abbrev pub linked : Option (List ℕ) → List Entry → List (Option (List ℕ) × Pair)
linked left [] = []
linked left (e ∷ es) = (left, (e.key, e.value)) ∷ linked e.tree es

-- the first so many of a node
abbrev pub first_rows : ℕ → Contents → List (Option (List ℕ) × Pair)
first_rows taken node = linked node.left (take taken node.entries)

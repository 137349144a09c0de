-- Which blocks a core holds, and gives back when it ends.
use Rattle.std.specs.Prelude.{ℕ, List, Bool, is_some}
use Rattle.kept.specs.Counts.{Keeping, bytes_at}

-- whether a core holds a block with this CID
abbrev pub is_held : Keeping → List ℕ → Bool
is_held k c = is_some (bytes_at k.uses c)
